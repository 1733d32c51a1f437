pub mod Rest
pub mod Told
pub mod Words
