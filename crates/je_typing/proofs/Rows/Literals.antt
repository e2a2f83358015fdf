-- Worked rows of literals.
use Rattle.std.proofs.Common.{◌≡◌, refl}
use Rattle.std.specs.Prelude.{pos, negsuc, codes}
use Rattle.std.specs.Int.{int_wrap}
use Rattle.je_core.specs.declared.types.Base.TheVariants as base
use Rattle.je_ast.specs.declared.expr.Literal.TheVariants as literal
use Rattle.je_typing.specs.declared.fault.TypeRule.TheVariants.{LiteralRange}
use Rattle.je_typing.specs.Judged.{gives, bind, need, breaks}
use Rattle.je_typing.specs.Literals.{literal_of, number_literal, negative_int, negative_long}
use Rattle.je_typing.proofs.Rows.Parts.{right, whole, int, long, char, text}

-- 2147483647
greatest_int : literal_of (literal.Int (pos 2147483647)) whole ≡ gives (int (pos 2147483647) whole)
unfolding literal_of number_literal bind need
greatest_int = refl

-- 2147483648
past_the_greatest_int : literal_of (literal.Int (pos 2147483648)) whole ≡ breaks LiteralRange whole
unfolding literal_of number_literal bind need
past_the_greatest_int = refl

-- 9223372036854775807L
greatest_long : literal_of (literal.Long (pos 9223372036854775807)) whole ≡ gives (long (pos 9223372036854775807) whole)
unfolding literal_of number_literal bind need
greatest_long = refl

-- 9223372036854775808L
past_the_greatest_long : literal_of (literal.Long (pos 9223372036854775808)) whole ≡ breaks LiteralRange whole
unfolding literal_of number_literal bind need
past_the_greatest_long = refl

-- -2147483648
least_int : number_literal base.Int (negative_int (pos 2147483648)) whole whole ≡ gives (int (negsuc 2147483647) whole)
unfolding number_literal bind need
least_int = refl

-- -2147483649
below_the_least_int : number_literal base.Int (negative_int (pos 2147483649)) right whole ≡ breaks LiteralRange right
unfolding number_literal bind need
below_the_least_int = refl

-- -0x80000000, which is the least int again
least_int_negated : number_literal base.Int (negative_int (negsuc 2147483647)) whole whole ≡ gives (int (negsuc 2147483647) whole)
unfolding number_literal bind need int_wrap
least_int_negated = refl

-- -9223372036854775808L
least_long : number_literal base.Long (negative_long (pos 9223372036854775808)) whole whole ≡ gives (long (negsuc 9223372036854775807) whole)
unfolding number_literal bind need
least_long = refl

-- 'a'
letter : literal_of (literal.Char (pos 97)) whole ≡ gives (char 97 whole)
unfolding literal_of
letter = refl

-- "ab"
letters : literal_of (literal.Text (codes "ab")) whole ≡ gives (text (codes "ab") whole)
unfolding literal_of
letters = refl
