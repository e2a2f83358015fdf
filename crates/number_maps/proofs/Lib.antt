pub mod Sharing
mod Rows
