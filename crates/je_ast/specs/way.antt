-- What proofs alone cite.
pub mod Folds
