pub mod Words
pub mod Declarations
pub mod View
pub mod way
