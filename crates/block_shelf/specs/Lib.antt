pub mod States
pub mod Laws
