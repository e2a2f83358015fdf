pub mod OneVariable
