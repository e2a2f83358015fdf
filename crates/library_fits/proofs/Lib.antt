pub mod Table
pub mod Rounds
pub mod Named
pub mod Tests
pub mod Members
mod Inherited
mod Classes
mod Fits
