pub mod way
pub mod Paging
