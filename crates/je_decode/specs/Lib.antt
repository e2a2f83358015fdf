pub mod Decoding
pub mod Escapes
pub mod Places
pub mod way
