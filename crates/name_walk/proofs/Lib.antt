pub mod Behind
pub mod Growth
pub mod Standing
pub mod Sites
