-- Assignment, compound assignment, and `++` and `--` (JLS 15.14, 15.15.1, 15.15.2, 15.26). That a final variable is assigned is
-- judged behind these.
use Rattle.std.specs.Prelude.{List, Bool, true, false, not, ◌&&◌, ◌||◌}
use Rattle.je_base.specs.declared.span.Span.{Span}
use Rattle.je_core.specs.declared.expr.BinOp.{BinOp}
use Rattle.je_core.specs.declared.expr.BinOp.TheVariants as op
use Rattle.je_core.specs.Core.{Core, CoreForm, Local, Field, Static, Index, Assign, Update, node, no_core, a_core, form_of, ty_of}
use Rattle.je_ast.specs.declared.operator.BinaryOp.{BinaryOp}
use Rattle.je_fitting.specs.Operators.{Sort, arithmetic, shift, bitwise, sort_of}
use Rattle.je_scopes.specs.SourceTypes.{SourceType}
use Rattle.source_types.specs.Erasure.{erased}
use Rattle.source_types.specs.Heads.{ClassHead}
use Rattle.je_typing.specs.declared.fault.TypeRule.TheVariants.{BadOperand, BadTarget}
use Rattle.je_typing.specs.Conversions.{assigned}
use Rattle.je_typing.specs.Judged.{Judged, gives, ◌>>=◌, ◌>>◌, check, need}
use Rattle.je_typing.specs.Operators.{core_op}
use Rattle.je_typing.specs.Typed.{TypedNode, is_boolean, is_numeric, is_string, is_void}

-- a variable; the length of an array is none (JLS 10.7)
abbrev pub is_place : CoreForm → Bool
is_place (Local n) = true
is_place (Field o c n) = true
is_place (Static o c n) = true
is_place (Index a i) = true
is_place _ = false

unfoldable pub place : Span → TypedNode → Judged (Unit {0})
place span t = check BadTarget span (is_place (form_of t.node))

-- ---- JLS 15.26.1; spans of the two sides are those of what is written, brackets included

abbrev pub assign_node : List ClassHead → Span → Span → TypedNode → Core → TypedNode
assign_node heads at span left value = record { node = node (Assign left.node value) (erased heads left.type) span at; type = left.type }

unfoldable pub assignment : List ClassHead → Span → Span → Span → Span → TypedNode → TypedNode → Judged TypedNode
assignment heads at left_span right_span span left right = do
  value ← assigned heads left.type right_span right
  place left_span left
  gives (assign_node heads at span left value)

-- ---- JLS 15.26.2: the operand stays as it is, since the conversions are those of the assignment

abbrev pub are_numeric : SourceType → SourceType → Bool
are_numeric s t = is_numeric s && is_numeric t

abbrev pub combines : Sort → SourceType → SourceType → Bool
combines arithmetic s t = are_numeric s t
combines shift s t = are_numeric s t
combines bitwise s t = are_numeric s t || (is_boolean s && is_boolean t)
combines _ s t = false

-- `+=` takes any value behind a String
abbrev pub appends : BinOp → SourceType → SourceType → Bool
appends op.Add s t = is_string s && not (is_void t)
appends o s t = false

abbrev pub updates : BinOp → SourceType → SourceType → Bool
updates o s t = combines (sort_of o) s t || appends o s t

abbrev pub update_node : List ClassHead → BinOp → Span → Span → TypedNode → Core → TypedNode
update_node heads o at span left operand =
    record { node = node (Update left.node o (a_core operand) false) (erased heads left.type) span at; type = left.type }

unfoldable pub update : List ClassHead → BinOp → Span → Span → Span → TypedNode → TypedNode → Judged TypedNode
update heads o at left_span span left right = do
  check BadOperand at (updates o left.type right.type)
  place left_span left
  gives (update_node heads o at span left right.node)

unfoldable pub compound : List ClassHead → BinaryOp → Span → Span → Span → TypedNode → TypedNode → Judged TypedNode
compound heads o at left_span span left right = do
  core ← need BadOperand at (core_op o)
  update heads core at left_span span left right

-- ---- `++` is Add, `--` is Sub; the postfix ones give the old value

abbrev pub step_node : BinOp → Bool → Span → Span → TypedNode → TypedNode
step_node o gives_old at span operand = record { node = node (Update operand.node o no_core gives_old) (ty_of operand.node) span at; type = operand.type }

unfoldable pub stepped : BinOp → Bool → Span → Span → Span → TypedNode → Judged TypedNode
stepped o gives_old at operand_span span operand = do
  check BadOperand at (is_numeric operand.type)
  place operand_span operand
  gives (step_node o gives_old at span operand)
