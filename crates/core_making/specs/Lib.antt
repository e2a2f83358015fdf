pub mod Known
pub mod way
pub mod Parts
pub mod Scopes
