pub mod Counts
pub mod Plan
