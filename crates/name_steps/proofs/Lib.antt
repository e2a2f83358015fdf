pub mod Arrays
pub mod Captured
pub mod Readings
pub mod Standing
pub mod LocalClasses
pub mod SimpleNames
pub mod FullNames
