pub mod Parts
pub mod Passing
pub mod SoughtMethods
pub mod Tables
pub mod ListedMethods
pub mod Found
pub mod Steps
