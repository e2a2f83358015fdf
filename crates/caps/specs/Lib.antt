pub mod States
pub mod Table
pub mod Forms
pub mod Small
