pub mod Marking
pub mod Initializing
pub mod Loading
pub mod Nodes
