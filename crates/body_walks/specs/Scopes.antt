-- What crates above name of `body_scopes`.
pub use Rattle.core_making.specs.Scopes.{Scope, scope_seen}
