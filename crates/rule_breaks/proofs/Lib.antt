pub mod Order
pub mod Members
pub mod Unique
