pub mod Captured
pub mod Rows
