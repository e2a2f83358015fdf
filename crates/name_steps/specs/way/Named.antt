-- What a name comes to, by what it means as a variable.
use Rattle.std.specs.Prelude.{◌<◌, ◌^◌}
use Rattle.je_base.specs.declared.span.Span.{Span}
use Rattle.je_typing.specs.Judged.{Judged, gives, ◌>>=◌, ◌>>◌}
use Rattle.je_typing.specs.Typed.{TypedNode}
use Rattle.name_typing.specs.Program.{Place, Program}
use Rattle.name_typing.specs.Variables.{Variable, a_field, not_forward, value_of, variable_node}

-- a variable that is read and assigned
unfoldable pub updated : Program → Place → Span → Variable → Judged TypedNode
updated p place at v = do
  t ← variable_node p place at v
  not_forward p place at v
  gives t

-- and one that is read
unfoldable pub valued : Program → Place → Span → Variable → Judged TypedNode
valued p place at v = do
  t ← updated p place at v
  gives (value_of p at v t)

-- the place of a field that is there
abbrev pub IsSmall : Variable → Type 0
IsSmall (a_field n m) = m.at < 2 ^ 32
IsSmall _ = Unit {0}
