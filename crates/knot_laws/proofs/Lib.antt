pub mod Positive
pub mod Layers
pub mod Knots
pub mod Longest
pub mod Cuts
pub mod Once
