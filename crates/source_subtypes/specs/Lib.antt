pub mod HeadView
pub mod View
pub mod Above
