-- What only proofs and private functions cite.
pub mod Blank
pub mod Library
