pub mod View
pub mod way
pub mod Seen
pub mod Written
pub mod Bodies
