pub mod Nests
pub mod Items
pub mod Heads
pub mod Opened
pub mod Follows
pub mod Deep
pub mod Quick
