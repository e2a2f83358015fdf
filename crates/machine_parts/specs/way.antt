-- What only proofs and the clauses of private functions cite.
pub mod Opened
pub mod Clauses
pub mod Slots
pub mod Spelling
