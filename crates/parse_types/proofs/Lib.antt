pub mod Same
pub mod Steps
pub mod Views
pub mod LookPast
