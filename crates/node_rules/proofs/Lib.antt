pub mod Places
pub mod Ordered
mod Rows
