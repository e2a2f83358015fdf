pub mod MethodsAbove
