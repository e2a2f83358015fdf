pub mod Inheriting
pub mod Outer
pub mod Places
pub mod Rounds
pub mod Steps
