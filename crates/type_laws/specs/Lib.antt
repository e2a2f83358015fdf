pub mod Laws
pub mod Ahead
pub mod Heads
