-- What only proofs cite.
pub mod Filling
