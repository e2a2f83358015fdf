pub mod Headers
pub mod View
pub mod way
