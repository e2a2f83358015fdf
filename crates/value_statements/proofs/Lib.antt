pub mod Numbers
pub mod Labelled
