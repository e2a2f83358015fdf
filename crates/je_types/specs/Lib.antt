pub mod Limits
pub mod Checked
pub mod Views
pub mod way
