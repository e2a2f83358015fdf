pub mod Answers
pub mod way
