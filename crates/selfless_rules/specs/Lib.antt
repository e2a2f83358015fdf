pub mod SelflessRules
