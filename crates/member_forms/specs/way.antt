-- What only proofs and private functions cite.
pub mod Fields
pub mod Heads
pub mod Parameters
pub mod Unwritten
