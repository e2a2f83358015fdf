mod Rows
pub mod Named
pub mod Selectors
