-- What only proofs cite.
pub mod Small
