pub mod Sets
pub mod Members
pub mod Tables
pub mod Names
pub mod Walk
