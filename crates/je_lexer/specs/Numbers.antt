-- JLS 3.10.1: integer literals. A word is a whole run of identifier characters that begins with a digit.
use Rattle.std.specs.Prelude.{ℕ, ◌+◌, ◌*◌, ◌^◌, Bool, true, false, not, ◌&&◌, ◌||◌, ◌==◌, nat_lt, List, [], ◌∷◌, drop, Option, Some, None, if◌then◌else◌}
use Rattle.std.specs.Char.{digit_value}
use Rattle.std.specs.List.{prefix_len}
use Rattle.je_decode.specs.declared.character.Character.{Character}
use Rattle.je_lexer.specs.Characters as char
use Rattle.je_lexer.specs.Classes.{begins_with, begins_with_digit, is_digit_below, tail}
use Rattle.je_lexer.specs.declared.numbers.Number.{Number}

abbrev pub is_empty : List Character → Bool
is_empty [] = true
is_empty (c ∷ cs) = false

abbrev pub is_suffix : Character → List Character → Bool
is_suffix c cs = is_empty cs && ((c.code == char.upper_l) || (c.code == char.lower_l))

-- the number that begins so, with its digits behind it, and then maybe `l` or `L`; None where the word is no literal or its
-- value is past 64 bits
abbrev pub digits : Bool → ℕ → ℕ → List Character → Option Number
digits decimal radix value [] = Some (record { decimal = decimal; long = false; value = value })
digits decimal radix value (c ∷ cs) =
    if is_suffix c cs then Some (record { decimal = decimal; long = true; value = value })
    else if is_digit_below radix c.code && nat_lt (radix * value + digit_value c.code) (2 ^ 64) then digits decimal radix (radix * value + digit_value c.code) cs
    else None

abbrev pub is_hexadecimal : List Character → Bool
is_hexadecimal word = begins_with char.digit_0 word && (begins_with char.lower_x (tail word) || begins_with char.upper_x (tail word))

-- `0x` or `0X` and hexadecimal digits, `0` and octal digits, or decimal digits
unfoldable pub number : List Character → Option Number
number word =
    if is_hexadecimal word then (if begins_with_digit 16 (tail (tail word)) then digits false 16 0 (tail (tail word)) else None)
    else if begins_with char.digit_0 word && not (is_empty (tail word)) then digits false 8 0 word
    else digits true 10 0 word

-- decimal values may be one past the greatest, which only a minus makes a value; the others are two's complement
abbrev pub limit : Number → ℕ
limit n = if n.decimal then (if n.long then 2 ^ 63 + 1 else 2 ^ 31 + 1) else (if n.long then 2 ^ 64 else 2 ^ 32)

-- ---- texts that Java reads as floating-point literals (JLS 3.10.2)

abbrev pub begins_with_sign : List Character → Bool
begins_with_sign cs = begins_with char.plus cs || begins_with char.minus cs

-- how many hexadecimal digits stand at the front
abbrev pub hexadecimal_run : List Character → ℕ
hexadecimal_run text = prefix_len (λ c. is_digit_below 16 c.code) text

-- `p`, maybe a sign, and a digit
abbrev pub begins_with_exponent : List Character → Bool
begins_with_exponent cs =
    (begins_with char.lower_p cs || begins_with char.upper_p cs) && (begins_with_digit 10 (tail cs) || (begins_with_sign (tail cs) && begins_with_digit 10 (tail (tail cs))))

-- a point behind the word makes it one: at once where the word is decimal digits, and before hexadecimal digits and an
-- exponent where it is hexadecimal ones
unfoldable pub goes_on : List Character → List Character → Bool
goes_on word behind =
    begins_with char.point behind && (if is_hexadecimal word then begins_with_exponent (drop (hexadecimal_run (tail behind)) (tail behind)) else true)

-- Java reads the literal and what stands behind it as a floating-point literal; one with `l` or `L` ends before it
abbrev pub is_floating : Number → List Character → List Character → Bool
is_floating i word behind = not i.long && goes_on word behind
