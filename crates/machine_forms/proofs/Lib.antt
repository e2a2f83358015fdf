pub mod Updates
pub mod Making
pub mod Handing
pub mod Admitting
pub mod Joining
pub mod Numbered
