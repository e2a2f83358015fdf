-- What only proofs cite.
pub mod Calls
pub mod Each
pub mod Begins
