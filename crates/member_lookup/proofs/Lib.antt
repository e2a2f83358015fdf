pub mod Unique
pub mod FieldWays
