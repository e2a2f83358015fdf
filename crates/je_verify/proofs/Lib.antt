pub mod Unbroken
pub mod Plain
