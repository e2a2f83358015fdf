pub mod Turns
pub mod Cases
pub mod Catching
pub mod Finishing
