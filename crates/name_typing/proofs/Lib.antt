pub mod FieldSets
pub mod Rows
