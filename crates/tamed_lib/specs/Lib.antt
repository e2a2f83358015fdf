pub mod Outcomes
pub mod Paying
pub mod way
