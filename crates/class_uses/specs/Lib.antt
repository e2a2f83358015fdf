pub mod Extended
pub mod Implemented
pub mod Constructed
