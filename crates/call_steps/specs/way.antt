-- What only proofs and private functions cite.
pub mod Parts
pub mod Sought
pub mod Found
