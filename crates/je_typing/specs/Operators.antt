-- Unary and binary operators (JLS 15.15, 15.17 to 15.24). `at` is the operator's token, `span` the whole expression.
use Rattle.std.specs.Prelude.{ℕ, Bool, true, false, not, ◌&&◌, ◌||◌, List, ◌++◌, Option, Some, None, if◌then◌else◌}
use Rattle.std.specs.Str.{bytes_eq}
use Rattle.je_base.specs.declared.span.Span.{Span}
use Rattle.je_core.specs.declared.expr.BinOp.{BinOp}
use Rattle.je_core.specs.declared.expr.BinOp.TheVariants as op
use Rattle.je_core.specs.declared.expr.UnOp.{UnOp}
use Rattle.je_core.specs.declared.expr.UnOp.TheVariants as unary_op
use Rattle.je_core.specs.declared.expr.Use.{Use}
use Rattle.je_core.specs.declared.types.Base.{Base}
use Rattle.je_core.specs.declared.types.Base.TheVariants as base
use Rattle.je_core.specs.declared.value.Value.{Value}
use Rattle.je_core.specs.declared.value.Value.TheVariants as value
use Rattle.je_core.specs.Core.{Core, CoreForm, Text, Unary, Binary, And, Or, Concat, node}
use Rattle.je_ast.specs.declared.operator.BinaryOp.{BinaryOp}
use Rattle.je_ast.specs.declared.operator.BinaryOp.TheVariants as source
use Rattle.je_fitting.specs.Operators.{Sort, shift, comparison, equality, bitwise, sort_of}
use Rattle.je_fitting.specs.Types.{of, string}
use Rattle.je_scopes.specs.SourceTypes.{SourceType}
use Rattle.source_types.specs.Heads.{ClassHead}
use Rattle.source_types.specs.Subtypes.{is_reference}
use Rattle.je_typing.specs.declared.operands.Operands.{Operands}
use Rattle.je_typing.specs.declared.fault.TypeRule.TheVariants.{BadOperand}
use Rattle.je_typing.specs.Constants.{constant_value, constant_text, uses_of, value_in, folded_unary, folded_binary, constant_or, spelled, joined_texts}
use Rattle.je_typing.specs.Conversions.{converted}
use Rattle.je_typing.specs.Castable.{may_be}
use Rattle.je_typing.specs.Judged.{Judged, gives, ◌>>=◌, ◌>>◌, check, need}
use Rattle.je_typing.specs.Promotion.{promoted, promoted_together}
use Rattle.je_typing.specs.Typed.{TypedNode, primitive_type, is_boolean, is_string, is_void, string_type}

abbrev pub of_base : Base → Core → TypedNode
of_base b n = record { node = n; type = primitive_type b }

-- ---- unary plus (JLS 15.15.3) adds no node but that of the promotion

abbrev pub plus_node : Base → Span → Span → Core → Core
plus_node b at span n = constant_or (value_in b (constant_value n)) (uses_of n) b span at (converted b n)

unfoldable pub plus : Span → Span → TypedNode → Judged TypedNode
plus at span operand = do
  b ← need BadOperand at (promoted operand.type)
  gives (of_base b (plus_node b at span operand.node))

-- ---- unary minus, `~` and `!` (JLS 15.15.4 to 15.15.6)

abbrev pub boolean_operand : SourceType → Option Base
boolean_operand t = if is_boolean t then Some base.Bool else None

-- the type to which the operand is promoted, which is that of the result
abbrev pub operand_base : UnOp → SourceType → Option Base
operand_base unary_op.Not t = boolean_operand t
operand_base o t = promoted t

abbrev pub unary_node : UnOp → Base → Span → Span → Core → Core
unary_node o b at span n = constant_or (folded_unary o (value_in b (constant_value n))) (uses_of n) b span at (node (Unary o (converted b n)) (of b) span at)

unfoldable pub unary : UnOp → Span → Span → TypedNode → Judged TypedNode
unary o at span operand = do
  b ← need BadOperand at (operand_base o operand.type)
  gives (of_base b (unary_node o b at span operand.node))

-- ---- binary operators on numbers and booleans (JLS 15.17 to 15.22)

abbrev pub alike : Option Base → Option Operands
alike None = None
alike (Some b) = Some (record { left = b; right = b })

-- of a shift each operand is promoted by itself
abbrev pub apart : Option Base → Option Base → Option Operands
apart (Some a) (Some b) = Some (record { left = a; right = b })
apart _ _ = None

abbrev pub truths_or_numbers : SourceType → SourceType → Option Operands
truths_or_numbers s t = if is_boolean s && is_boolean t then alike (Some base.Bool) else alike (promoted_together s t)

abbrev pub operands : Sort → SourceType → SourceType → Option Operands
operands shift s t = apart (promoted s) (promoted t)
operands equality s t = truths_or_numbers s t
operands bitwise s t = truths_or_numbers s t
operands _ s t = alike (promoted_together s t)

abbrev pub result_base : Sort → Base → Base
result_base comparison b = base.Bool
result_base equality b = base.Bool
result_base _ b = b

abbrev pub binary_form : BinOp → Operands → Core → Core → CoreForm
binary_form o p l r = Binary o (converted p.left l) (converted p.right r)

abbrev pub folded : BinOp → Operands → Core → Core → Option Value
folded o p l r = folded_binary o (value_in p.left (constant_value l)) (value_in p.right (constant_value r))

abbrev pub binary_node : BinOp → Operands → Base → Span → Span → Core → Core → Core
binary_node o p b at span l r = constant_or (folded o p l r) (uses_of l ++ uses_of r) b span at (node (binary_form o p l r) (of b) span at)

abbrev pub binary_of : BinOp → Operands → Base → Span → Span → Core → Core → TypedNode
binary_of o p b at span l r = of_base b (binary_node o p b at span l r)

unfoldable pub primitive_operation : BinOp → Span → Span → TypedNode → TypedNode → Judged TypedNode
primitive_operation o at span left right = do
  p ← need BadOperand at (operands (sort_of o) left.type right.type)
  gives (binary_of o p (result_base (sort_of o) p.left) at span left.node right.node)

-- ---- string concatenation (JLS 15.18.1)

abbrev pub text_or : Option (List ℕ) → List Use → Span → Span → Core → Core
text_or None uses span at n = n
text_or (Some units) uses span at n = node (Text units uses) string span at

abbrev pub concat_node : Span → Span → Core → Core → Core
concat_node at span l r = text_or (joined_texts (spelled l) (spelled r)) (uses_of l ++ uses_of r) span at (node (Concat l r) string span at)

unfoldable pub concatenation : Span → Span → TypedNode → TypedNode → Judged TypedNode
concatenation at span left right = do
  check BadOperand at (not (is_void left.type || is_void right.type))
  gives (record { node = concat_node at span left.node right.node; type = string_type })

-- ---- equality of references (JLS 15.21.3); that of two constant strings is a constant

abbrev pub same_texts : BinOp → Option (List ℕ) → Option (List ℕ) → Option Value
same_texts op.Eq (Some a) (Some b) = Some (value.Bool (bytes_eq a b))
same_texts o (Some a) (Some b) = Some (value.Bool (not (bytes_eq a b)))
same_texts o _ _ = None

abbrev pub reference_node : BinOp → Span → Span → Core → Core → Core
reference_node o at span l r = constant_or (same_texts o (constant_text l) (constant_text r)) (uses_of l ++ uses_of r) base.Bool span at (node (Binary o l r) (of base.Bool) span at)

unfoldable pub reference_equality : List ClassHead → BinOp → Span → Span → TypedNode → TypedNode → Judged TypedNode
reference_equality heads o at span left right = do
  check BadOperand at (may_be heads left.type right.type)
  gives (of_base base.Bool (reference_node o at span left.node right.node))

-- ---- `&&` and `||` (JLS 15.23, 15.24)

abbrev pub logical_form : Bool → Core → Core → CoreForm
logical_form true l r = And l r
logical_form false l r = Or l r

abbrev pub logical_value : Bool → Option Value → Option Value → Option Value
logical_value true (Some (value.Bool a)) (Some (value.Bool b)) = Some (value.Bool (a && b))
logical_value false (Some (value.Bool a)) (Some (value.Bool b)) = Some (value.Bool (a || b))
logical_value is_and _ _ = None

abbrev pub logical_node : Bool → Span → Span → Core → Core → Core
logical_node is_and at span l r = constant_or (logical_value is_and (constant_value l) (constant_value r)) (uses_of l ++ uses_of r) base.Bool span at (node (logical_form is_and l r) (of base.Bool) span at)

unfoldable pub logical : Bool → Span → Span → TypedNode → TypedNode → Judged TypedNode
logical is_and at span left right = do
  check BadOperand at (is_boolean left.type && is_boolean right.type)
  gives (of_base base.Bool (logical_node is_and at span left.node right.node))

-- ---- all binary operators, as they are written

-- the operator of the core program; the logical ones are forms of their own
abbrev pub core_op : BinaryOp → Option BinOp
core_op source.Or = None
core_op source.And = None
core_op source.BitOr = Some op.BitOr
core_op source.BitXor = Some op.BitXor
core_op source.BitAnd = Some op.BitAnd
core_op source.Equal = Some op.Eq
core_op source.NotEqual = Some op.Ne
core_op source.Less = Some op.Lt
core_op source.Greater = Some op.Gt
core_op source.LessEqual = Some op.Le
core_op source.GreaterEqual = Some op.Ge
core_op source.ShiftLeft = Some op.Shl
core_op source.ShiftRight = Some op.Shr
core_op source.UnsignedShiftRight = Some op.Ushr
core_op source.Add = Some op.Add
core_op source.Subtract = Some op.Sub
core_op source.Multiply = Some op.Mul
core_op source.Divide = Some op.Div
core_op source.Remainder = Some op.Rem

abbrev pub is_and : BinaryOp → Bool
is_and source.And = true
is_and _ = false

-- whether `+` joins texts
abbrev pub joins : BinOp → SourceType → SourceType → Bool
joins op.Add s t = is_string s || is_string t
joins o s t = false

abbrev pub is_equality : Sort → Bool
is_equality equality = true
is_equality _ = false

-- whether `==` or `!=` has a reference on one side
abbrev pub compares_references : BinOp → SourceType → SourceType → Bool
compares_references o s t = is_equality (sort_of o) && (is_reference s || is_reference t)

abbrev pub operation : List ClassHead → BinOp → Span → Span → TypedNode → TypedNode → Judged TypedNode
operation heads o at span left right =
    if joins o left.type right.type then concatenation at span left right
    else if compares_references o left.type right.type then reference_equality heads o at span left right
    else primitive_operation o at span left right

abbrev pub operation_or_logical : List ClassHead → BinaryOp → Option BinOp → Span → Span → TypedNode → TypedNode → Judged TypedNode
operation_or_logical heads o None at span left right = logical (is_and o) at span left right
operation_or_logical heads o (Some core) at span left right = operation heads core at span left right

unfoldable pub binary : List ClassHead → BinaryOp → Span → Span → TypedNode → TypedNode → Judged TypedNode
binary heads o at span left right = operation_or_logical heads o (core_op o) at span left right
