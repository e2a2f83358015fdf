pub mod Bounding
pub mod Distinct
pub mod Sets
pub mod Shapes
pub mod Within
