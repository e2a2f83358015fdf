-- A scope to which a local was added.
use Rattle.std.proofs.Common.{◌≡◌, sym, subst}
use Rattle.std.specs.Prelude.{Bool}
use Rattle.name_typing.specs.Program.{LocalVariable}
use Rattle.body_typing.specs.FinalVariables.{Scope}
use Rattle.body_typing.specs.Bodies.{with_local}
use Rattle.body_scopes.specs.Extending.{Extends}
use Rattle.body_scopes.proofs.Extending.{local_extends}

pub local_added : (a b : Scope) (is_given : Bool) (v : LocalVariable) → b ≡ with_local is_given v a → Extends a b
local_added a b is_given v e = subst (Extends a) (sym e) (local_extends is_given v a)
