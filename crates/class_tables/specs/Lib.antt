pub mod Few
pub mod FieldTables
pub mod SubclassTables
pub mod way
