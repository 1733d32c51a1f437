pub mod Flags
pub mod Means
