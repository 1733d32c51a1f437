pub mod Meaning
pub mod Rules
pub mod Calls
pub mod Laws
pub mod Beyond
pub mod Words
