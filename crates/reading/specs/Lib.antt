pub mod Kinds
pub mod Words
pub mod Captures
pub mod Tallies
