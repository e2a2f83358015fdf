pub mod Fields
pub mod Shapes
pub mod Upwards
