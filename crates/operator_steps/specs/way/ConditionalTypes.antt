-- The type of `? :`, where its condition is one.
use Rattle.std.specs.Prelude.{List}
use Rattle.je_base.specs.declared.span.Span.{Span}
use Rattle.je_scopes.specs.SourceTypes.{SourceType}
use Rattle.source_types.specs.Heads.{ClassHead}
use Rattle.je_typing.specs.declared.fault.TypeRule.TheVariants.{BadCondition, BadOperand}
use Rattle.je_typing.specs.Conditionals.{choice_type}
use Rattle.je_typing.specs.Judged.{Judged, gives, ◌>>=◌, ◌>>◌, check, need}
use Rattle.je_typing.specs.Typed.{TypedNode, is_boolean}

unfoldable pub judged_type : List ClassHead → Span → Span → TypedNode → TypedNode → TypedNode → Judged SourceType
judged_type heads at condition_span condition y n = do
  t ← need BadOperand at (choice_type heads y n)
  check BadCondition condition_span (is_boolean condition.type)
  gives t
