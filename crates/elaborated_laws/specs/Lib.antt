pub mod Elaborated
pub mod Premises
pub mod Sound
pub mod TextsOnce
pub mod Laws
