-- What only proofs cite.
pub mod Reaching
