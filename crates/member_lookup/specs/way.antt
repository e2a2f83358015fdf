-- What only proofs cite.
pub mod Fields
