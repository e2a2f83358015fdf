pub mod Changes
pub mod Comparing
pub mod Finding
pub mod Parts
