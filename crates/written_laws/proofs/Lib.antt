pub mod Spelled
pub mod Renumbered
pub mod Places
pub mod Sources
