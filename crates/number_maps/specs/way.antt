-- What only proofs cite.
pub mod Nodes
