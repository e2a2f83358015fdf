pub mod Files
pub mod Names
pub mod Units
pub mod Faults
pub mod way
