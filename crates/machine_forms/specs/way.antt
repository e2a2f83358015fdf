-- What only proofs and the clauses of private functions cite.
pub mod Making
pub mod Handing
pub mod Admitting
pub mod Updating
pub mod Running
pub mod Calling
