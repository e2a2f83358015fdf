-- The conditional operator `? :` (JLS 15.25). A reference or null stands beside a reference or null, of which one has a type
-- above the other's.
use Rattle.std.specs.Prelude.{Bool, true, false, ◌&&◌, List, ◌++◌, Option, Some, None, option_map, if◌then◌else◌}
use Rattle.je_base.specs.declared.span.Span.{Span}
use Rattle.je_core.specs.declared.types.Base.{Base}
use Rattle.je_core.specs.declared.types.Base.TheVariants as base
use Rattle.je_core.specs.declared.expr.Use.{Use}
use Rattle.je_core.specs.declared.value.Value.{Value}
use Rattle.je_core.specs.declared.value.Value.TheVariants as value
use Rattle.je_core.specs.Core.{Core, CoreForm, Const, Text, Choose, node}
use Rattle.je_classes.specs.Subtypes.{same_base}
use Rattle.je_scopes.specs.SourceTypes.{SourceType}
use Rattle.source_types.specs.Erasure.{erased}
use Rattle.source_types.specs.Heads.{ClassHead}
use Rattle.source_types.specs.Subtypes.{is_subtype}
use Rattle.je_typing.specs.declared.fault.TypeRule.TheVariants.{BadOperand, BadCondition}
use Rattle.je_typing.specs.Constants.{constant_value, constant_text, uses_of, value_in}
use Rattle.je_typing.specs.Conversions.{converted_if, narrows_to}
use Rattle.je_typing.specs.Judged.{Judged, gives, ◌>>=◌, ◌>>◌, check, need}
use Rattle.je_typing.specs.Promotion.{promoted_base, wider_if}
use Rattle.je_typing.specs.Typed.{TypedNode, primitive, primitive_type, is_boolean}

abbrev pub is_byte_or_short : Base → Bool
is_byte_or_short base.Byte = true
is_byte_or_short base.Short = true
is_byte_or_short _ = false

abbrev pub is_int_base : Base → Bool
is_int_base base.Int = true
is_int_base _ = false

-- the other operand is an int constant that fits the type of the one
abbrev pub takes_constant : Base → Base → Option Value → Bool
takes_constant a b v = is_int_base b && narrows_to a v

-- the type of two primitive operands, where neither has the other's; their values, where they are constant
abbrev pub number_choice : Base → Base → Option Value → Option Value → Option Base
number_choice a b v w =
    if is_byte_or_short a && is_byte_or_short b then Some base.Short
    else if takes_constant a b w then Some a
    else if takes_constant b a v then Some b
    else wider_if (promoted_base a) (promoted_base b)

abbrev pub primitive_choice : Base → Base → Option Value → Option Value → Option Base
primitive_choice a b v w = if same_base a b then Some a else number_choice a b v w

abbrev pub reference_choice : List ClassHead → SourceType → SourceType → Option SourceType
reference_choice heads s t = if is_subtype heads s t then Some t else if is_subtype heads t s then Some s else None

abbrev pub choice_of : List ClassHead → TypedNode → TypedNode → Option Base → Option Base → Option SourceType
choice_of heads y n (Some a) (Some b) = option_map primitive_type (primitive_choice a b (constant_value y.node) (constant_value n.node))
choice_of heads y n None None = reference_choice heads y.type n.type
choice_of heads y n _ _ = None

abbrev pub choice_type : List ClassHead → TypedNode → TypedNode → Option SourceType
choice_type heads y n = choice_of heads y n (primitive y.type) (primitive n.type)

-- ---- of three constants one constant

abbrev pub constant_form : Option Base → Core → List Use → Option CoreForm
constant_form (Some b) n uses = option_map (λ v. Const v uses) (value_in b (constant_value n))
constant_form None n uses = option_map (λ units. Text units uses) (constant_text n)

abbrev pub chosen_form : Option Value → Option CoreForm → Option CoreForm → Option CoreForm
chosen_form (Some (value.Bool true)) (Some y) (Some n) = Some y
chosen_form (Some (value.Bool false)) (Some y) (Some n) = Some n
chosen_form _ _ _ = None

abbrev pub form_or : Option CoreForm → CoreForm → CoreForm
form_or None form = form
form_or (Some constant) form = constant

abbrev pub choice_uses : Core → Core → Core → List Use
choice_uses c y n = uses_of c ++ uses_of y ++ uses_of n

abbrev pub choice_form : Option Base → Core → Core → Core → CoreForm
choice_form b c y n = form_or
    (chosen_form (constant_value c) (constant_form b y (choice_uses c y n)) (constant_form b n (choice_uses c y n)))
    (Choose c (converted_if b y) (converted_if b n))

abbrev pub choice_node : List ClassHead → SourceType → Span → Span → Core → Core → Core → Core
choice_node heads t at span c y n = node (choice_form (primitive t) c y n) (erased heads t) span at

-- `at` is the `?`
unfoldable pub choice : List ClassHead → Span → Span → Span → TypedNode → TypedNode → TypedNode → Judged TypedNode
choice heads at condition_span span condition y n = do
  t ← need BadOperand at (choice_type heads y n)
  check BadCondition condition_span (is_boolean condition.type)
  gives (record { node = choice_node heads t at span condition.node y.node n.node; type = t })
