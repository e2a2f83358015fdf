-- Worked rows: what calls and creations come to in a few classes, each fault beside its nearest accepted neighbour.
pub mod Parts
mod Overloads
mod Calls
mod Members
mod Constructors
mod Creations
