-- What only proofs and private functions cite.
pub mod Clauses
pub mod Enums
