pub mod Dimensions
pub mod Handed
