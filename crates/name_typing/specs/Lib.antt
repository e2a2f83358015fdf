pub mod Program
pub mod Fields
pub mod Instances
pub mod Variables
pub mod Accesses
pub mod Qualified
