pub mod Following
pub mod Caught
pub mod WalkedGroups
pub mod Enums
pub mod Jumping
