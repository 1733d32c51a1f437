pub mod Fit
pub mod Built
pub mod Outside
