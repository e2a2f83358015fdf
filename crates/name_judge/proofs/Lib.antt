pub mod Lists
pub mod Meant
pub mod Keeping
pub mod Leading
pub mod ParameterSteps
pub mod MethodSteps
pub mod Back
mod Any
mod Imports
mod OwnName
mod Rounds
mod Firsts
