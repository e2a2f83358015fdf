-- Casts and `instanceof` (JLS 5.5, 15.16, 15.20.2). The type is written without type arguments; its span is that of the type,
-- brackets included.
use Rattle.std.specs.Prelude.{ℕ, Bool, true, false, not, ◌&&◌, List, Option, Some, None, if◌then◌else◌}
use Rattle.je_base.specs.declared.span.Span.{Span}
use Rattle.je_core.specs.declared.types.Base.{Base}
use Rattle.je_core.specs.declared.types.Base.TheVariants as base
use Rattle.je_core.specs.Core.{Core, Cast, InstanceOf, node}
use Rattle.je_scopes.specs.SourceTypes.{SourceType, plain, of_class, of_variable}
use Rattle.source_types.specs.Erasure.{erased}
use Rattle.source_types.specs.Heads.{ClassHead}
use Rattle.je_typing.specs.declared.fault.TypeRule.TheVariants.{BadCast, BadInstanceOf}
use Rattle.je_typing.specs.Constants.{constant_value, constant_text, uses_of, value_in, constant_or}
use Rattle.je_typing.specs.Conversions.{converted}
use Rattle.je_typing.specs.Castable.{is_generic, may_be}
use Rattle.je_typing.specs.Judged.{Judged, gives, ◌>>◌, check}
use Rattle.je_typing.specs.Operators.{of_base, text_or}
use Rattle.je_typing.specs.Typed.{TypedNode, typed_as, primitive, is_boolean, is_numeric, is_string}

-- ---- to a primitive type: one Convert where the type changes; of a constant a constant

-- a number to a number, a boolean to boolean
abbrev pub casts_to : Base → SourceType → Bool
casts_to base.Bool t = is_boolean t
casts_to b t = is_numeric t

abbrev pub primitive_cast_node : Base → Span → Span → Core → Core
primitive_cast_node b at span n = constant_or (value_in b (constant_value n)) (uses_of n) b span at (converted b n)

unfoldable pub primitive_cast : Base → Span → Span → TypedNode → Judged TypedNode
primitive_cast b type_span span operand = do
  check BadCast type_span (casts_to b operand.type)
  gives (of_base b (primitive_cast_node b type_span span operand.node))

-- ---- to a reference type: one Cast; of a constant string to String a constant

-- a type that is whole when the program runs (JLS 4.7)
abbrev pub is_reifiable : List ClassHead → SourceType → Bool
is_reifiable heads (plain b n) = true
is_reifiable heads (of_class c ts n) = not (is_generic heads c)
is_reifiable heads (of_variable c i n) = false

abbrev pub tests_as : List ClassHead → SourceType → SourceType → Bool
tests_as heads to t = is_reifiable heads to && may_be heads t to

-- the units of a constant string, where the type is String
abbrev pub text_kept : SourceType → Core → Option (List ℕ)
text_kept to n = if is_string to then constant_text n else None

abbrev pub reference_cast_node : List ClassHead → SourceType → Span → Span → Core → Core
reference_cast_node heads to at span n = text_or (text_kept to n) (uses_of n) span at (node (Cast n) (erased heads to) span at)

unfoldable pub reference_cast : List ClassHead → SourceType → Span → Span → TypedNode → Judged TypedNode
reference_cast heads to type_span span operand = do
  check BadCast type_span (tests_as heads to operand.type)
  gives (record { node = reference_cast_node heads to type_span span operand.node; type = to })

abbrev pub cast_to : List ClassHead → SourceType → Option Base → Span → Span → TypedNode → Judged TypedNode
cast_to heads to (Some b) type_span span operand = primitive_cast b type_span span operand
cast_to heads to None type_span span operand = reference_cast heads to type_span span operand

unfoldable pub cast : List ClassHead → SourceType → Span → Span → TypedNode → Judged TypedNode
cast heads to type_span span operand = cast_to heads to (primitive to) type_span span operand

-- ---- JLS 15.20.2

unfoldable pub instance_of : List ClassHead → SourceType → Span → Span → Span → TypedNode → Judged TypedNode
instance_of heads to type_span at span operand = do
  check BadInstanceOf type_span (tests_as heads to operand.type)
  gives (typed_as base.Bool (InstanceOf operand.node (erased heads to)) span at)
