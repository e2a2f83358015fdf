pub mod Orders
pub mod Answers
pub mod Implementing
pub mod Examples
