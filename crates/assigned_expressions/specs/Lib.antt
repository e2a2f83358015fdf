pub mod Places
pub mod Reads
pub mod Expressions
pub mod Untouched
pub mod View
