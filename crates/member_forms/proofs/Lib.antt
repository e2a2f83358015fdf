pub mod Ways
pub mod Kept
pub mod Counted
pub mod Beside
pub mod Among
