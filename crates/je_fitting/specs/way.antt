pub mod Deciding
pub mod DecidingStatements
pub mod Quantifying
pub mod DecidingMembers
pub mod DecidingClasses
pub mod Misfits
