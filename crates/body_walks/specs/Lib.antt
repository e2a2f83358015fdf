pub mod Walks
pub mod Standings
pub mod Seen
pub mod Scopes
pub mod Known
