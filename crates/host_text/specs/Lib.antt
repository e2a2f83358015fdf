pub mod Rules
pub mod Report
