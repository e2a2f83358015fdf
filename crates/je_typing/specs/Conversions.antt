-- Conversions (JLS 5.1 to 5.3): of a number to another type, assignment, and calls.
use Rattle.std.specs.Prelude.{zero, ℤ, pos, negsuc, Bool, false, ◌&&◌, ◌||◌, List, Option, Some, None, int_le, if◌then◌else◌}
use Rattle.je_base.specs.declared.span.Span.{Span}
use Rattle.je_core.specs.declared.types.Base.{Base}
use Rattle.je_core.specs.declared.types.Base.TheVariants as base
use Rattle.je_core.specs.declared.value.Value.{Value}
use Rattle.je_core.specs.declared.value.Value.TheVariants as value
use Rattle.je_core.specs.Core.{Core, Convert, node, ty_of}
use Rattle.je_classes.specs.Subtypes.{same_base, same_type}
use Rattle.je_fitting.specs.Types.{of}
use Rattle.je_scopes.specs.SourceTypes.{SourceType, plain}
use Rattle.source_types.specs.Heads.{ClassHead}
use Rattle.source_types.specs.Subtypes.{is_subtype}
use Rattle.je_typing.specs.declared.fault.TypeRule.TheVariants.{NotConvertible}
use Rattle.je_typing.specs.Constants.{constant_value}
use Rattle.je_typing.specs.Judged.{Judged, gives, ◌>>◌, check}
use Rattle.je_typing.specs.Promotion.{widens}
use Rattle.je_typing.specs.Typed.{TypedNode, primitive}

-- ---- one Convert where a number's type changes, and nothing else

abbrev pub span_of : Core → Span
span_of (node form ty span at) = span

abbrev pub token_of : Core → Span
token_of (node form ty span at) = at

unfoldable pub converted : Base → Core → Core
converted to n = if same_type (ty_of n) (of to) then n else node (Convert n) (of to) (span_of n) (token_of n)

-- ---- method invocation conversion (JLS 5.3): the same primitive type, a wider number, or a subtype

abbrev pub passes_as : List ClassHead → SourceType → SourceType → Option Base → Option Base → Bool
passes_as heads s t (Some a) (Some b) = same_base a b || widens a b
passes_as heads s t None None = is_subtype heads s t
passes_as heads s t _ _ = false

abbrev pub passes : List ClassHead → SourceType → SourceType → Bool
passes heads s t = passes_as heads s t (primitive s) (primitive t)

-- ---- assignment conversion (JLS 5.2): the same, or a constant that fits

-- the numbers of the small types
abbrev pub holds : Base → ℤ → Bool
holds base.Byte z = int_le (negsuc 127) z && int_le z (pos 127)
holds base.Short z = int_le (negsuc 32767) z && int_le z (pos 32767)
holds base.Char z = int_le (pos 0) z && int_le z (pos 65535)
holds _ z = false

-- the number of a constant of type byte, short, char or int
abbrev pub small_number : Value → Option ℤ
small_number (value.Byte z) = Some z
small_number (value.Short z) = Some z
small_number (value.Char n) = Some (pos n)
small_number (value.Int z) = Some z
small_number _ = None

abbrev pub holds_if : Base → Option ℤ → Bool
holds_if to None = false
holds_if to (Some z) = holds to z

abbrev pub narrows_to : Base → Option Value → Bool
narrows_to to None = false
narrows_to to (Some v) = holds_if to (small_number v)

abbrev pub narrows : Option Value → SourceType → Bool
narrows v (plain to zero) = narrows_to to v
narrows v _ = false

abbrev pub is_assignable : List ClassHead → TypedNode → SourceType → Bool
is_assignable heads from to = passes heads from.type to || narrows (constant_value from.node) to

abbrev pub converted_if : Option Base → Core → Core
converted_if None n = n
converted_if (Some b) n = converted b n

-- a value in a variable of that type; its span is that of the whole value, brackets included
unfoldable pub assigned : List ClassHead → SourceType → Span → TypedNode → Judged Core
assigned heads to span from = do
  check NotConvertible span (is_assignable heads from to)
  gives (converted_if (primitive to) from.node)
