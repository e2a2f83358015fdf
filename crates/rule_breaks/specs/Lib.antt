pub mod Breaks
pub mod way
