pub mod way
pub mod First
