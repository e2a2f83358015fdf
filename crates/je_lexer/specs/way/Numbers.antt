-- The integer literal that a word is, as it is read.
use Rattle.std.specs.Prelude.{Bool, false, not, ◌&&◌, ◌||◌, nat_lt, List, Option, Some, None, if◌then◌else◌}
use Rattle.je_decode.specs.declared.character.Character.{Character}
use Rattle.je_lexer.specs.Numbers.{number, limit, goes_on}
use Rattle.je_lexer.specs.declared.numbers.Number.{Number}

abbrev pub in_limit : Option Number → Bool
in_limit None = false
in_limit (Some n) = nat_lt n.value (limit n)

abbrev pub is_long : Option Number → Bool
is_long None = false
is_long (Some n) = n.long

-- the literal that the word is, before what stands behind it; one with `l` or `L` is no floating-point literal's front
unfoldable pub number_before : List Character → List Character → Option Number
number_before behind word = if in_limit (number word) && (is_long (number word) || not (goes_on word behind)) then number word else None
