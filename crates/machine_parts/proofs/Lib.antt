pub mod Lists
pub mod Initializers
pub mod Seen
pub mod Subclasses
pub mod Results
pub mod Slots
pub mod Variables
