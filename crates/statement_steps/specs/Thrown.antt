-- What is thrown, and what a catch takes (JLS 14.18, 14.20). `span` is the statement's first token.
use Rattle.std.specs.Prelude.{zero, List, Option, Some, None}
use Rattle.je_base.specs.declared.span.Span.{Span}
use Rattle.je_core.specs.declared.types.ClassId.{ClassId}
use Rattle.je_core.specs.Core.{CoreStmt, Throw, stmt}
use Rattle.je_scopes.specs.SourceTypes.{SourceType, of_class}
use Rattle.source_types.specs.Erasure.{class_numbered}
use Rattle.source_types.specs.Heads.{ClassHead}
use Rattle.source_types.specs.Subtypes.{is_subtype}
use Rattle.je_typing.specs.declared.fault.TypeRule.TheVariants.{BadThrow, BadCatch}
use Rattle.je_typing.specs.Judged.{Judged, gives, ◌>>=◌, ◌>>◌, check, need}
use Rattle.je_typing.specs.Typed.{TypedNode}
use Rattle.header_typing.specs.Supers.{throwable_type}

-- `throw null` throws too
unfoldable pub thrown : List ClassHead → Span → Span → TypedNode → Judged CoreStmt
thrown heads span value_span t = do
  check BadThrow value_span (is_subtype heads t.type throwable_type)
  gives (stmt (Throw t.node) span span)

-- the class that a type names, and no type variable
abbrev pub class_named : SourceType → Option ClassId
class_named (of_class c args zero) = Some (class_numbered c)
class_named _ = None

-- the class that a catch takes; its span is that of the class's name
unfoldable pub caught_class : List ClassHead → Span → SourceType → Judged ClassId
caught_class heads name_span t = do
  class ← need BadCatch name_span (class_named t)
  check BadCatch name_span (is_subtype heads t throwable_type)
  gives class
