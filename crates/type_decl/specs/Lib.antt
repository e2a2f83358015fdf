pub mod way
