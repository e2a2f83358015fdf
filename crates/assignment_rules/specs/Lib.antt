pub mod Rules
pub mod Ends
pub mod Sites
pub mod View
pub mod way
