-- Worked rows: classes of which one is at fault, beside their nearest accepted neighbours.
pub mod Parts
mod Overriding
mod Inheriting
mod Clashing
