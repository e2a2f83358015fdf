pub mod way
pub mod Counts
pub mod Library
pub mod Known
