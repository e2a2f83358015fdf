pub mod View
pub mod Above
pub mod way
pub mod HierarchyView
