pub mod Booleans
mod Sound
mod Complete
mod StatementsDecided
pub mod Quantified
mod MembersDecided
pub mod ClassesDecided
pub mod FirstMisfit
pub mod Acyclic
mod Rows
mod ProgramRows
