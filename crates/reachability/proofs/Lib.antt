pub mod Jumped
pub mod Parts
mod Rows
