pub mod Tamed
pub mod Statics
pub mod Library
pub mod Texts
pub mod Programs
