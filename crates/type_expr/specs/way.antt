-- What only proofs and private functions cite.
pub mod Calls
pub mod Lists
