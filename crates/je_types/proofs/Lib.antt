pub mod Checking
pub mod SmallPrograms
