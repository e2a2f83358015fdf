pub mod Words
pub mod BinaryNames
