-- A new array with its elements (JLS 15.10), of what is written.
use Rattle.std.specs.Prelude.{ℕ, min, List}
use Rattle.je_base.specs.declared.span.Span.{Span}
use Rattle.je_scopes.specs.SourceTypes.{SourceType, with_dims}
use Rattle.source_types.specs.Heads.{ClassHead}
use Rattle.je_typing.specs.Arrays.{Part, array_type, elements_if, elements_node}
use Rattle.je_typing.specs.Judged.{Judged, gives, ◌>>=◌}
use Rattle.je_typing.specs.Typed.{TypedNode, element_type}

-- The elements are judged first, by the type of the array, of whose dimensions no more than 255 count there.
abbrev pub new_array_of : List ClassHead → SourceType → ℕ → Span → Span → List Part → Judged TypedNode
new_array_of heads of dims element_span span parts = do
  values ← elements_if heads (element_type (with_dims of (min 255 dims))) parts
  made ← array_type heads of dims element_span
  gives (elements_node heads made span values)
