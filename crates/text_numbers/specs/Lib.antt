pub mod Measures
pub mod Reading
pub mod Writing
pub mod way
