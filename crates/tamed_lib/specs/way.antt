-- What only proofs cite.
pub mod Elements
pub mod Opened
pub mod Receivers
