pub mod Laws
pub mod Fitting
pub mod Inherited
pub mod Bridging
