pub mod First
pub mod SameWays
