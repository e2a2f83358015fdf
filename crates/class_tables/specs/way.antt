-- What only proofs cite.
pub mod Order
pub mod Slots
pub mod Above
