pub mod way
pub mod Made
pub mod Parts
