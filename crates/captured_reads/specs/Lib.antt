pub mod Nesting
pub mod NestingView
pub mod Scopes
pub mod Walks
pub mod Standing
pub mod View
pub mod way
