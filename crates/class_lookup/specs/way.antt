-- What only proofs cite.
pub mod Walk
