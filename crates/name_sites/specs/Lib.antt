pub mod ByName
pub mod First
pub mod Library
pub mod Number
pub mod Shown
pub mod View
pub mod Imports
pub mod Tops
