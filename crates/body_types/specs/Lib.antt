pub mod BodyTypes
