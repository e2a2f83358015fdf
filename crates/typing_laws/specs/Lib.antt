pub mod Fitting
pub mod Correspondence
pub mod Passing
pub mod Laws
