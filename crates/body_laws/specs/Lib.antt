pub mod Written
pub mod Bodies
pub mod Fitting
pub mod Laws
