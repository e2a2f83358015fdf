pub mod Interning
pub mod Joining
