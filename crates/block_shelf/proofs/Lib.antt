pub mod Fit
pub mod Starts
pub mod Standing
pub mod Built
