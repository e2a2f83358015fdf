pub mod Begins
pub mod Passing
pub mod Members
