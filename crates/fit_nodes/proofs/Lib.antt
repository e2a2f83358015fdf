pub mod Arrays
pub mod Lengths
