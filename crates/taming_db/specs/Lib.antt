pub mod Markers
pub mod Shape
pub mod Rows
pub mod Taming
pub mod Tame
pub mod TableView
pub mod View
pub mod way
