-- What only proofs cite.
pub mod Handing
