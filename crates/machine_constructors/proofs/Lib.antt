pub mod Initializing
pub mod Building
