pub mod way
pub mod Tables
pub mod Places
pub mod View
pub mod Selected
