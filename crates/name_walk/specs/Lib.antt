pub mod View
pub mod Sizes
pub mod Collected
