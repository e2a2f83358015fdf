pub mod Premises
pub mod Parts
pub mod Laws
