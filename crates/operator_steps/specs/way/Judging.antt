-- What assignments judge of their sides.
use Rattle.std.specs.Prelude.{List}
use Rattle.je_base.specs.declared.span.Span.{Span}
use Rattle.je_core.specs.declared.expr.BinOp.{BinOp}
use Rattle.je_core.specs.Core.{Core}
use Rattle.source_types.specs.Heads.{ClassHead}
use Rattle.je_typing.specs.declared.fault.TypeRule.TheVariants.{BadOperand}
use Rattle.je_typing.specs.Assignments.{place, updates}
use Rattle.je_typing.specs.Conversions.{assigned}
use Rattle.je_typing.specs.Judged.{Judged, gives, ◌>>=◌, ◌>>◌, check}
use Rattle.je_typing.specs.Typed.{TypedNode}

-- the value for a variable, which the left side must be
unfoldable pub judged_value : List ClassHead → Span → Span → TypedNode → TypedNode → Judged Core
judged_value heads left_span right_span left right = do
  value ← assigned heads left.type right_span right
  place left_span left
  gives value

-- an operator takes the types of two sides, of which the left one must be a variable
unfoldable pub judged_sides : BinOp → Span → Span → TypedNode → TypedNode → Judged (Unit {0})
judged_sides o at left_span left right = do
  check BadOperand at (updates o left.type right.type)
  place left_span left
