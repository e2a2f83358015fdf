pub mod Imports
pub mod Met
pub mod View
