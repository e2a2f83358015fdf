mod Rows
mod Stores
