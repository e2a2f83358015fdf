pub mod Extending
pub mod Leaving
