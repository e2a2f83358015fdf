-- Worked rows.
pub mod Expressions
pub mod Statements
pub mod Members
pub mod Units
pub mod Places
