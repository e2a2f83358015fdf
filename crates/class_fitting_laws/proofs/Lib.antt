mod Scopes
mod Initializers
mod Methods
mod Heads
mod Members
mod Enums
pub mod Unwritten
