pub mod Maps
pub mod way
