mod Few
mod Interning
mod Lexed
pub mod OneAnswer
mod Parsed
mod Refused
mod Sizes
mod Zips
