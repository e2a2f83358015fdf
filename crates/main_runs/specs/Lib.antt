pub mod Mains
