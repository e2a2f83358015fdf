-- What only proofs and private functions cite.
pub mod Choosing
pub mod ConditionalTypes
pub mod Judging
pub mod Elements
