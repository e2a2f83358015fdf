pub mod Elements
pub mod Held
pub mod Members
pub mod Places
pub mod Read
