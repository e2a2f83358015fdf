pub mod PlainTypes
pub mod Walking
pub mod Bounds
pub mod ClassTypes
