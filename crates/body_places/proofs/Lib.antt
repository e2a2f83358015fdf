pub mod Objects
pub mod Joining
pub mod Levels
pub mod OneList
pub mod Outwards
pub mod Frames
