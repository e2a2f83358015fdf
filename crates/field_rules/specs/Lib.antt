pub mod FieldRules
