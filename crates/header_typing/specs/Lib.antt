pub mod WrittenTypes
pub mod Supers
pub mod Statics
pub mod Throws
