pub mod FieldSteps
