-- What only proofs and private functions cite.
pub mod Asked
pub mod Grounds
pub mod Halves
pub mod Rows
pub mod Seen
pub mod Telling
pub mod Unwritten
pub mod Walked
pub mod Walks
