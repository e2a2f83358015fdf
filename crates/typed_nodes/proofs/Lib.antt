pub mod Plain
pub mod PrimitiveBases
pub mod ElementTypes
