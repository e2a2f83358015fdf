pub mod Throws
pub mod Handled
pub mod Expressions
pub mod Statements
pub mod Programs
pub mod View
pub mod way
