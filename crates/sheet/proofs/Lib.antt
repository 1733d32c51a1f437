pub mod Fields
pub mod Chain
pub mod Records
pub mod Whole
