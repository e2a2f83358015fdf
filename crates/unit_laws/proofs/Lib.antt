pub mod Imports
pub mod Files
