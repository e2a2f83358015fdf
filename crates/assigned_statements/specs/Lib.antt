pub mod Untouched
pub mod Statements
pub mod way
