pub mod way
pub mod Variables
pub mod Qualifiers
pub mod Places
