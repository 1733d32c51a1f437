pub mod Packing
pub mod Reading
pub mod Headers
pub mod Entries
pub mod Fill
pub mod Meaning
pub mod Bytes
pub mod Following
