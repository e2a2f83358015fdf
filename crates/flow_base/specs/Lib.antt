pub mod Constants
pub mod FaultSets
pub mod Switches
pub mod Ways
pub mod way
