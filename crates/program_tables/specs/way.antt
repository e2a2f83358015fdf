-- What only private functions cite.
pub mod Units
pub mod Words
pub mod Once
pub mod Seen
pub mod Places
pub mod Texts
