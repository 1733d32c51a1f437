pub mod Bits
pub mod Contents
pub mod Formats
pub mod Sheets
