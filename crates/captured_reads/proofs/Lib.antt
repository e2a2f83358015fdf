pub mod Deeper
pub mod Filling
pub mod Fields
pub mod Numbers
pub mod Rows
