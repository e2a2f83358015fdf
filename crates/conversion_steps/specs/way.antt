pub mod Narrowing
