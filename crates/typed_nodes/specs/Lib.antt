pub mod Seen
pub mod way
