-- What only proofs cite.
pub mod Inheriting
