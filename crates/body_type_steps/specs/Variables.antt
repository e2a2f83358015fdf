-- What crates above name of `name_steps`.
pub use Rattle.name_steps.specs.Variables.{variable_seen}
