pub mod Blocks
pub mod Counting
pub mod Sound
pub mod Means
pub mod Places
pub mod Worked
