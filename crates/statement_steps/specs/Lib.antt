pub mod Conditions
pub mod Jumps
pub mod Returns
pub mod Switches
pub mod Thrown
pub mod View
pub mod way
