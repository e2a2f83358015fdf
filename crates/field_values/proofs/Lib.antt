pub mod Written
pub mod Without
pub mod Library
