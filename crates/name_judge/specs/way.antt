-- What only proofs and the clauses of private functions cite.
pub mod Bounds
pub mod Progress
