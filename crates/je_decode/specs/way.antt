-- What only proofs and private functions' clauses cite.
pub mod Views
