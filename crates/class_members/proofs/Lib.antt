pub mod Types
pub mod Upwards
