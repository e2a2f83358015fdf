pub mod View
pub mod Extending
