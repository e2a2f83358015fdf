pub mod Lists
pub mod Ways
pub mod Counts
pub mod Paths
pub mod Below
pub mod Same
mod Subtyping
pub mod Sets
pub mod FieldSets
pub mod MethodSets
mod Rows
pub mod Reaching
pub mod Dimensions
