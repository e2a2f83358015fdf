pub mod Orders
pub mod Totals
pub mod StaticPlaces
pub mod Slots
pub mod ClassesAbove
