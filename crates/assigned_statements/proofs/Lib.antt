pub mod Loops
pub mod OneVariable
pub mod Parts
mod Rows
