pub mod Upwards
pub mod Rows
