pub mod Heights
pub mod Steps
