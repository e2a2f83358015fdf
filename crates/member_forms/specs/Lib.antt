pub mod Calls
pub mod Seen
pub mod Walks
pub mod way
pub mod Statements
pub mod Bodies
