pub mod Placing
pub mod Translating
