pub mod Upwards
pub mod Declared
pub mod Heads
pub mod HiddenFields
pub mod Made
pub mod Numbers
