-- Literals (JLS 3.10, 15.8.1).
use Rattle.std.specs.Prelude.{ℤ, pos, negsuc, Bool, ◌&&◌, ◌^◌, [], Option, Some, None, int_le, if◌then◌else◌}
use Rattle.std.specs.Int.{int_rem_euclid}
use Rattle.std.specs.Int.RustNames.{unsigned_abs}
use Rattle.je_base.specs.declared.span.Span.{Span}
use Rattle.je_core.specs.declared.types.Base.{Base}
use Rattle.je_core.specs.declared.types.Base.TheVariants as base
use Rattle.je_core.specs.declared.expr.UnOp.TheVariants.{Minus}
use Rattle.je_core.specs.declared.value.Value.{Value}
use Rattle.je_core.specs.declared.value.Value.TheVariants as value
use Rattle.je_core.specs.Core.{Const, Text}
use Rattle.je_ast.specs.declared.expr.Literal.{Literal}
use Rattle.je_ast.specs.declared.expr.Literal.TheVariants as literal
use Rattle.je_typing.specs.declared.fault.TypeRule.TheVariants.{LiteralRange}
use Rattle.je_typing.specs.Constants.{folded_unary}
use Rattle.je_typing.specs.Judged.{Judged, gives, ◌>>=◌, need}
use Rattle.je_typing.specs.Typed.{TypedNode, typed_as, typed_text}

-- the number as a value of type int, and of type long
abbrev pub int_value : ℤ → Option Value
int_value z = if int_le (negsuc 2147483647) z && int_le z (pos 2147483647) then Some (value.Int z) else None

abbrev pub long_value : ℤ → Option Value
long_value z = if int_le (negsuc 9223372036854775807) z && int_le z (pos 9223372036854775807) then Some (value.Long z) else None

abbrev pub char_value : ℤ → Value
char_value z = value.Char (unsigned_abs (int_rem_euclid z (pos (2 ^ 16))))

-- a number that must be a value; its literal has the span `at`
unfoldable pub number_literal : Base → Option Value → Span → Span → Judged TypedNode
number_literal b v at span = do
  w ← need LiteralRange at v
  gives (typed_as b (Const w []) span at)

unfoldable pub literal_of : Literal → Span → Judged TypedNode
literal_of (literal.Int z) span = number_literal base.Int (int_value z) span span
literal_of (literal.Long z) span = number_literal base.Long (long_value z) span span
literal_of (literal.Char z) span = gives (typed_as base.Char (Const (char_value z) []) span span)
literal_of (literal.Text units) span = gives (typed_text (Text units []) span span)
literal_of (literal.Bool b) span = gives (typed_as base.Bool (Const (value.Bool b) []) span span)
literal_of literal.Null span = gives (typed_as base.Null (Const value.Null []) span span)

-- ---- an integer literal directly under a unary minus (JLS 3.10.1): one beyond the greatest value may stand there

abbrev pub is_number : ℤ → ℤ → Bool
is_number y z = int_le y z && int_le z y

abbrev pub negative_int : ℤ → Option Value
negative_int z = if is_number (pos 2147483648) z then Some (value.Int (negsuc 2147483647)) else folded_unary Minus (int_value z)

abbrev pub negative_long : ℤ → Option Value
negative_long z = if is_number (pos 9223372036854775808) z then Some (value.Long (negsuc 9223372036854775807)) else folded_unary Minus (long_value z)
