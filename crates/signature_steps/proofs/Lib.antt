pub mod MembersMet
pub mod Interfaces
pub mod Throws
pub mod ClassesMet
pub mod Placed
pub mod Written
