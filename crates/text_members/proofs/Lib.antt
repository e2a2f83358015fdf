pub mod Blanks
pub mod Comparison
pub mod Places
mod Rows
