mod Limits
mod Negation
mod Ones
mod Rows
