pub mod Arguments
pub mod Bases
pub mod Behind
pub mod ClassTypes
