pub mod Methods
pub mod Overrides
