pub mod Choosing
pub mod ConditionalTypes
pub mod Judging
pub mod IndexFaults
pub mod Dimensions
pub mod Initializing
pub mod Listing
