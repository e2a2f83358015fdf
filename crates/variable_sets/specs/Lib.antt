pub mod Numbers
pub mod Sets
pub mod ExitSets
pub mod SetView
pub mod ExitsView
pub mod way
