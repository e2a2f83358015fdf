pub mod Types
pub mod Lists
pub mod Sets
pub mod Rounds
