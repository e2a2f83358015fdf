pub mod Parts
pub mod Walking
pub mod Gains
pub mod Steps
pub mod Supers
pub mod Cycles
pub mod Free
