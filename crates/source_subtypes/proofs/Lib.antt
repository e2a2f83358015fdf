pub mod Equal
pub mod Putting
pub mod Erasing
pub mod Climbing
pub mod Deciding
