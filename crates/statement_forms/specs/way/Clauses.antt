-- One clause of a `try`.
use Rattle.std.specs.Prelude.{List}
use Rattle.je_core.specs.Core.{CoreCatch, catch}
use Rattle.source_types.specs.Heads.{ClassHead}
use Rattle.je_typing.specs.Judged.{Judged, gives, ◌>>=◌, ◌>>◌}
use Rattle.statement_steps.specs.Thrown.{caught_class}
use Rattle.body_typing.specs.FinalVariables.{Scope}
use Rattle.body_typing.specs.Catches.{Clause}
use Rattle.body_typing.specs.LocalVariables.{new_name}

unfoldable pub clause : List ClassHead → Scope → Clause → Judged CoreCatch
clause heads s c = do
  new_name s c.name
  class ← caught_class heads c.name_span c.type
  gives (catch c.number class c.name_span c.body)
