pub mod Covers
pub mod Earliest
pub mod EarlierImports
pub mod Left
