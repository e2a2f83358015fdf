-- What only proofs and private functions cite.
pub mod Declared
pub mod Labelled
pub mod Written
pub mod Caught
pub mod Grouped
