pub mod Overlay
pub mod Guests
