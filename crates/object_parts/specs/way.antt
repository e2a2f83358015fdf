-- What only proofs and the clauses of private functions cite.
pub mod Shapes
pub mod Slots
