pub mod Grows
pub mod Typed
pub mod Mentions
pub mod Scopes
pub mod Values
pub mod Declared
pub mod Steps
pub mod Switches
pub mod Loops
pub mod Walk
mod Rows
