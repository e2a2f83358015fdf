-- Worked rows of each file of definitions: a fault beside its nearest accepted neighbour.
pub mod Parts
mod WrittenTypes
mod Supers
mod Statics
mod Throws
