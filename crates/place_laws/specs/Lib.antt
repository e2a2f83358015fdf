pub mod way
pub mod Laws
