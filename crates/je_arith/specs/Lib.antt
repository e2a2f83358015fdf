pub mod Arithmetic
pub mod Bits
pub mod Comparison
pub mod Conversion
pub mod Operators
pub mod Shifts
