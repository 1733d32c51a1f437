pub mod Refusals
pub mod Plans
pub mod Words
