pub mod Values
pub mod way
