pub mod Rows
pub mod AboveAlone
pub mod Walking
pub mod Decided
mod Examples
