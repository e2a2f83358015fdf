-- What only proofs and private functions cite.
pub mod Seen
pub mod Upwards
pub mod HiddenFields
pub mod Made
