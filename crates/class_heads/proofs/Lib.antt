pub mod Behind
pub mod Rounds
mod Rows
