pub mod Spelled
pub mod Laws
pub mod Kept
pub mod Reading
pub mod way
pub mod Cycles
pub mod Refused
