-- What only proofs cite.
pub mod Ways
