pub mod Nodes
pub mod Safety
pub mod Premises
pub mod Laws
