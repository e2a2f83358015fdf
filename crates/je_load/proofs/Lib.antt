mod Rows
mod Growing
pub mod Beginning
