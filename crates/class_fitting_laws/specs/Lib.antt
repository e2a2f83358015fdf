pub mod Written
pub mod Classes
pub mod Unwritten
pub mod Fitting
pub mod Laws
