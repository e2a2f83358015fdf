pub mod Journals
pub mod Laying
pub mod Texts
