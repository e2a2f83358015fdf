pub mod Steps
pub mod Texts
pub mod Counts
pub mod Names
