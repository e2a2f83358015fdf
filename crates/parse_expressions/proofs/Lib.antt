pub mod CreationTurns
pub mod InitializerTurns
pub mod OperandTurns
pub mod OperatorTurns
pub mod SelectionTurns
