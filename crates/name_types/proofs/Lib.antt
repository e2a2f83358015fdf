pub mod Views
pub mod Limits
pub mod Bases
pub mod Named
pub mod Rows
