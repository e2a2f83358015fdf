-- What only proofs cite.
pub mod Opened
