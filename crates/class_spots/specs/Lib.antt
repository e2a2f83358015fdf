pub mod Starts
pub mod Spots
