pub mod Enabled
pub mod Uses
pub mod ObjectTexts
pub mod Comparisons
pub mod Nodes
