pub mod Looks
pub mod Picks
pub mod Words
