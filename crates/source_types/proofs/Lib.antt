pub mod Same
pub mod Above
mod Subtyping
pub mod Reaching
pub mod Dimensions
mod Rows
