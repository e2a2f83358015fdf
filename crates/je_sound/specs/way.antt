-- What only proofs cite.
pub mod Deciding
pub mod Bare
