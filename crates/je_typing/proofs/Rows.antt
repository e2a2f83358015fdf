-- Worked rows of each file of definitions: a fault beside its nearest accepted neighbour.
pub mod Parts
mod Literals
mod Operators
mod Conditionals
mod Conversions
mod Assignments
mod Casts
mod Arrays
