pub mod View
pub mod Choosing
