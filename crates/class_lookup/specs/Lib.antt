pub mod Above
pub mod way
