pub mod Overloads
pub mod Methods
pub mod Calls
pub mod Constructors
pub mod Creations
pub mod Laws
