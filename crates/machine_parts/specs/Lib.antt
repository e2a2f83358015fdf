pub mod Telling
pub mod Starts
pub mod Ways
pub mod Outermost
pub mod way
