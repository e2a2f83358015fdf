pub mod Bodies
pub mod Modifiers
