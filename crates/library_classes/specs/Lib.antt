pub mod Library
pub mod Numbers
pub mod Laws
