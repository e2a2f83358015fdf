-- What only private functions and proofs cite.
pub mod Users
pub mod Kept
pub mod Locals
pub mod Rounds
