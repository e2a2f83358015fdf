-- Worked rows: what names mean in a few classes, each fault beside its nearest accepted neighbour.
pub mod Parts
mod Fields
mod Variables
mod Accesses
mod Qualified
