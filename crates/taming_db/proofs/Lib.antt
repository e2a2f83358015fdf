pub mod Mapped
pub mod Keys
pub mod Places
pub mod OneSaying
pub mod Reading
pub mod Tame
