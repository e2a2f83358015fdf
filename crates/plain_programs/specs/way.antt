-- What only proofs cite.
pub mod Deciding
