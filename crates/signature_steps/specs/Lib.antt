pub mod View
pub mod Signed
