mod Rules
pub mod Fronts
pub mod Names
pub mod Types
pub mod Heads
pub mod Modifiers
pub mod Lookahead
pub mod Openings
pub mod Public
