pub mod Walking
pub mod Above
