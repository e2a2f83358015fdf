pub mod Either
mod Growing
mod Settling
pub mod Rounds
pub mod First
pub mod Ranges
mod Walking
pub mod Lists
pub mod Dependence
mod Acyclic
pub mod Found
mod Rows
