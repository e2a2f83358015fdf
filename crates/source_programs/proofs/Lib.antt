pub mod Phases
pub mod Library
pub mod OneProgram
pub mod OneFinding
