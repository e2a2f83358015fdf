pub mod Labels
pub mod way
