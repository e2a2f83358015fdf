pub mod Lists
pub mod MethodWays
