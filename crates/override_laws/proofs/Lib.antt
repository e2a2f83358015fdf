pub mod Lists
pub mod Erasures
pub mod Standing
pub mod Overridden
mod Rows
pub mod Results
pub mod Inherited
pub mod Bridging
