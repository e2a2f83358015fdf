pub mod StaticRules
