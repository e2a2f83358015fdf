pub mod Assigning
pub mod Before
pub mod Spans
pub mod Types
pub mod Lists
pub mod Forms
