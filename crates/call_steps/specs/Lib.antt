pub mod Made
pub mod Called
pub mod way
pub mod TableView
pub mod Receivers
