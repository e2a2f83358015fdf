-- What the members of java.lang.Integer, Long and Math do (their pages in the Java SE 5 API), each under its signature.
use Rattle.std.specs.Prelude.{ℕ, ℤ, List, [], ◌∷◌, Option, Some, None, codes}
use Rattle.std.specs.Int.{w32, w64}
use Rattle.je_core.specs.declared.value.Value.{Value}
use Rattle.je_core.specs.declared.value.Value.TheVariants.{Int, Long}
use Rattle.je_core.specs.Core.{CoreProgram}
use Rattle.je_java.specs.Raised.{number_format}
use Rattle.je_java.specs.Steps.{Computation, ret, ◌>>=◌, wrong, or_raise}
use Rattle.je_java.specs.library.Arguments.{int_argument, long_argument, text_or_null, Entry, entry_of}
use Rattle.je_java.specs.library.Strings.{new_text, text_of_int, text_of_long}
use Rattle.text_numbers.specs.Measures.{bit_count, absolute, greater, less}
use Rattle.text_numbers.specs.Reading.{parsed_int, parsed_long}
use Rattle.text_numbers.specs.Writing.{hex_text}

-- the number that a text writes; null writes none
abbrev pub read_by : (List ℕ → Option ℤ) → Option (List ℕ) → Option ℤ
read_by parse None = None
read_by parse (Some units) = parse units

abbrev pub parsed : CoreProgram → (List ℕ → Option ℤ) → List Value → Computation ℤ
parsed program parse given = do
  text ← text_or_null given 0
  or_raise program number_format (read_by parse text)

unfoldable pub parse_int : CoreProgram → List Value → Computation Value
parse_int program given = do
  number ← parsed program parsed_int given
  ret (Int number)

unfoldable pub parse_long : CoreProgram → List Value → Computation Value
parse_long program given = do
  number ← parsed program parsed_long given
  ret (Long number)

unfoldable pub hex_of_int : List Value → Computation Value
hex_of_int given = do
  number ← int_argument given 0
  new_text (hex_text number)

unfoldable pub of_int : (ℤ → ℤ) → List Value → Computation Value
of_int f given = do
  x ← int_argument given 0
  ret (Int (f x))

unfoldable pub of_long : (ℤ → ℤ) → List Value → Computation Value
of_long f given = do
  x ← long_argument given 0
  ret (Long (f x))

unfoldable pub of_ints : (ℤ → ℤ → ℤ) → List Value → Computation Value
of_ints f given = do
  x ← int_argument given 0
  y ← int_argument given 1
  ret (Int (f x y))

unfoldable pub of_longs : (ℤ → ℤ → ℤ) → List Value → Computation Value
of_longs f given = do
  x ← long_argument given 0
  y ← long_argument given 1
  ret (Long (f x y))

-- ---- by their signatures

abbrev pub integer_entries : CoreProgram → List Value → List Entry
integer_entries program given =
    (codes "bitCount(int)", of_int bit_count given) ∷
    (codes "parseInt(String)", parse_int program given) ∷
    (codes "toHexString(int)", hex_of_int given) ∷
    (codes "toString(int)", text_of_int given) ∷
    []

abbrev pub long_entries : CoreProgram → List Value → List Entry
long_entries program given =
    (codes "parseLong(String)", parse_long program given) ∷
    (codes "toString(long)", text_of_long given) ∷
    []

abbrev pub math_entries : List Value → List Entry
math_entries given =
    (codes "abs(int)", of_int (absolute w32) given) ∷
    (codes "abs(long)", of_long (absolute w64) given) ∷
    (codes "max(int,int)", of_ints greater given) ∷
    (codes "max(long,long)", of_longs greater given) ∷
    (codes "min(int,int)", of_ints less given) ∷
    (codes "min(long,long)", of_longs less given) ∷
    []

unfoldable pub integer_member : CoreProgram → List ℕ → List Value → Computation Value
integer_member program signature given = entry_of signature (integer_entries program given) wrong

unfoldable pub long_member : CoreProgram → List ℕ → List Value → Computation Value
long_member program signature given = entry_of signature (long_entries program given) wrong

unfoldable pub math_member : List ℕ → List Value → Computation Value
math_member signature given = entry_of signature (math_entries given) wrong
