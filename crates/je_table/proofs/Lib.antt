pub mod Keys
pub mod Search
pub mod Numbers
