-- What the members of the library's classes do.
pub mod Arguments
pub mod Strings
pub mod Builders
pub mod Numbers
pub mod Objects
pub mod Throwables
pub mod RowObjects
