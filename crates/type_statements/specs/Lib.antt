pub mod Written
pub mod way
pub mod Walk
