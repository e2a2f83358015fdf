pub mod Tests
pub mod Spelling
pub mod Counting
pub mod Naming
pub mod Earlier
