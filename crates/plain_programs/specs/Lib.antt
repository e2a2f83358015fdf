pub mod Wild
pub mod Nodes
pub mod Plain
pub mod Laws
pub mod way
