pub mod Codes
pub mod way
