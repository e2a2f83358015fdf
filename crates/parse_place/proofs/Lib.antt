mod Depths
mod Loop
pub mod Tails
