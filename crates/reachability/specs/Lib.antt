pub mod Jumps
pub mod Reachable
pub mod Programs
pub mod View
pub mod way
