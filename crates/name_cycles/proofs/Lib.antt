pub mod Ways
pub mod Graphs
pub mod Ranks
