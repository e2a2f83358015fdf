pub mod way
pub mod Variables
