pub mod Views
pub mod Readings
pub mod Readers
pub mod Nests
pub mod Turns
