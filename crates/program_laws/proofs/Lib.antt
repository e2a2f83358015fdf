mod Lists
mod Acyclic
mod Round
mod Signatures
mod Supers
mod Named
mod Bridges
mod Declaring
pub mod BridgesFit
pub mod Bodies
pub mod Fields
pub mod Methods
pub mod Classes
pub mod Program
pub mod Sources
