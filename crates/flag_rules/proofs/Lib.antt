pub mod Lists
pub mod Steps
pub mod Meant
pub mod AsShelf
pub mod Made
