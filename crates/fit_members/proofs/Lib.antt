pub mod HeadCalls
pub mod Each
pub mod FirstLocals
pub mod Standing
