pub mod Orders
pub mod Sorted
pub mod Steps
pub mod Entries
pub mod ByPlace
