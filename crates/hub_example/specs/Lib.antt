pub mod Past
pub mod Refusals
