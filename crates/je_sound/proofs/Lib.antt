pub mod Lists
pub mod Kept
pub mod Library
pub mod Values
pub mod Worlds
pub mod Fresh
pub mod Statics
pub mod Inherited
pub mod Dispatched
pub mod Members
pub mod Decided
pub mod CallsDecided
mod Rows
