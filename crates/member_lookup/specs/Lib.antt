pub mod Founds
pub mod way
