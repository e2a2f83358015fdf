pub mod Places
pub mod way
