pub mod Journals
pub mod Laid
