pub mod Adding
pub mod Further
