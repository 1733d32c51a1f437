pub mod Lists
pub mod Seats
