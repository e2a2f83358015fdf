pub mod Values
pub mod Objects
pub mod Worlds
pub mod Calls
pub mod Laws
pub mod way
