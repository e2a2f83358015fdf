pub mod Below
pub mod One
