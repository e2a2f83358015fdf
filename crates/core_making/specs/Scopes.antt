-- What crates above name of `body_scopes`.
pub use Rattle.body_scopes.specs.View.{scope_seen}
pub use Rattle.body_scopes.specs.declared.scope.Scope.{Scope}
