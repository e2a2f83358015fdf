pub mod Heads
pub mod Substitution
pub mod Erasure
pub mod Supertypes
pub mod Subtypes
pub mod Laws
pub mod way
