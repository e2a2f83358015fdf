-- An array initializer for a type, by the type of its elements, where it has any.
use Rattle.std.specs.Prelude.{List, Option}
use Rattle.je_base.specs.declared.span.Span.{Span}
use Rattle.je_scopes.specs.SourceTypes.{SourceType}
use Rattle.source_types.specs.Heads.{ClassHead}
use Rattle.je_typing.specs.declared.fault.TypeRule.TheVariants.{BadArray}
use Rattle.je_typing.specs.Arrays.{Part, elements_if, elements_node, initialized}
use Rattle.je_typing.specs.Judged.{Judged, gives, ◌>>=◌, need}
use Rattle.je_typing.specs.Typed.{TypedNode}

unfoldable pub array_by : List ClassHead → SourceType → Option SourceType → Span → List Part → Judged TypedNode
array_by heads t element span parts = do
  values ← elements_if heads element parts
  needed ← need BadArray span (initialized heads t element)
  gives (elements_node heads t span values)
