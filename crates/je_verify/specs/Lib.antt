pub mod Broken
pub mod Views
