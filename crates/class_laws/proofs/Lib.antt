pub mod ClassOrder
pub mod TypeOrder
pub mod FieldAnswers
pub mod MethodAnswers
pub mod Chain
pub mod Dispatching
