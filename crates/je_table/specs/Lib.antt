pub mod Library
pub mod Members
pub mod Rows
pub mod Tables
pub mod Words
pub mod way
