-- What only proofs and private functions cite.
pub mod Selecting
pub mod Named
pub mod Behind
