pub mod Values
pub mod Nodes
pub mod Operators
pub mod Unary
pub mod Literals
pub mod Casts
pub mod Erased
pub mod Texts
pub mod Subtypes
pub mod Assigned
pub mod Assignments
pub mod References
pub mod Choices
pub mod Elements
mod Rows
mod HeadRows
