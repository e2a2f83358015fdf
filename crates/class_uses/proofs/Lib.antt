pub mod AboveAlone
mod Rows
