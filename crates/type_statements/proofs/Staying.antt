-- A scope that is left as it was, or to which a local was added.
use Rattle.std.proofs.Common.{◌≡◌, sym, subst}
use Rattle.body_typing.specs.FinalVariables.{Scope}
use Rattle.body_scopes.specs.Extending.{Extends}
use Rattle.body_scopes.proofs.Extending.{extends_itself}
pub use Rattle.type_statements.proofs.LocalsAdded.{local_added}

pub stays_extends : (a b : Scope) → b ≡ a → Extends a b
stays_extends a b e = subst (Extends a) (sym e) (extends_itself a)
