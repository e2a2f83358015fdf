-- What only proofs and private functions' clauses cite.
pub mod Cutting
pub mod Numbers
pub mod Reading
pub mod Runs
pub mod Steps
pub mod Symbols
pub mod Views
