pub mod Names
pub mod Written
pub mod Judged
pub mod Parts
pub mod Laws
