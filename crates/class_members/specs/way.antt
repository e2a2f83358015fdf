-- What only proofs cite.
pub mod Own
