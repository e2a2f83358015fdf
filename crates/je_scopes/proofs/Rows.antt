pub mod Trees
mod Twice
mod Unknown
mod Cycle
mod Profile
mod Free
