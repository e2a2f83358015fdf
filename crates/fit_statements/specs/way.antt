-- What only proofs cite.
pub mod Parts
