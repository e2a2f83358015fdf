-- Worked rows on the members of Integer, Long and Math, as the Java SE 5 API has them, and what they cost.
use Rattle.std.proofs.Common.{◌≡◌, ℕ, List, [], ◌∷◌, ◌++◌, refl}
use Rattle.std.specs.Prelude.{pos, negsuc, codes}
use Rattle.std.specs.Fmt.{digits}
use Rattle.std.specs.Int.{int_wrap}
use Rattle.je_core.specs.declared.object.Obj.{Obj}
use Rattle.je_core.specs.declared.object.Obj.TheVariants.{Instance, Text}
use Rattle.je_core.specs.declared.value.Value.{Value}
use Rattle.je_core.specs.declared.value.Value.TheVariants.{Int, Long, Null}
use Rattle.je_table.specs.declared.classes.LibraryClass.TheVariants as class
use Rattle.je_java.specs.Steps.{Answer, Run, Exits}
use Rattle.je_java.specs.way.Opened.{library_opened}
use Rattle.je_java.proofs.Rows.{class_number}
use Rattle.text_numbers.specs.Measures.{ones_among}
use Rattle.je_java.proofs.library.Program.{runs, reference, with}

-- "-12", "12x", and the first number past the ints
abbrev objects : List Obj
objects = Text (codes "-12") ∷ Text (codes "12x") ∷ Text (codes "2147483648") ∷ []

module _ (go : Value → Run) (exits : Exits) where
  abbrev gives : Value → Answer
  gives value = go value (with objects 10)

  abbrev makes_text : List ℕ → ℕ → Answer
  makes_text units left = go (reference 3) (with (objects ++ Text units ∷ []) left)

  abbrev throws_number_format : Answer
  throws_number_format = exits.throw (record { 0 = 3 }) (with (objects ++ Instance (class_number 38) (Null ∷ []) ∷ []) 9)

  ones : runs class.Integer (codes "bitCount(int)") Null (Int (negsuc 0) ∷ []) go exits (with objects 10) ≡ gives (Int (pos 32))
  unfolding library_opened ones_among
  ones = refl

  parses : runs class.Integer (codes "parseInt(String)") Null (reference 0 ∷ []) go exits (with objects 10) ≡ gives (Int (negsuc 11))
  unfolding library_opened
  parses = refl

  parses_no_number : runs class.Integer (codes "parseInt(String)") Null (reference 1 ∷ []) go exits (with objects 10) ≡ throws_number_format
  unfolding library_opened
  parses_no_number = refl

  parses_no_int : runs class.Integer (codes "parseInt(String)") Null (reference 2 ∷ []) go exits (with objects 10) ≡ throws_number_format
  unfolding library_opened
  parses_no_int = refl

  parses_null : runs class.Integer (codes "parseInt(String)") Null (Null ∷ []) go exits (with objects 10) ≡ throws_number_format
  unfolding library_opened
  parses_null = refl

  hex : runs class.Integer (codes "toHexString(int)") Null (Int (negsuc 0) ∷ []) go exits (with objects 10) ≡ makes_text (codes "ffffffff") 2
  unfolding library_opened digits
  hex = refl

  told_int : runs class.Integer (codes "toString(int)") Null (Int (negsuc 6) ∷ []) go exits (with objects 10) ≡ makes_text (codes "-7") 8
  unfolding library_opened digits
  told_int = refl

  parses_long : runs class.Long (codes "parseLong(String)") Null (reference 2 ∷ []) go exits (with objects 10) ≡ gives (Long (pos 2147483648))
  unfolding library_opened
  parses_long = refl

  told_long : runs class.Long (codes "toString(long)") Null (Long (pos 12) ∷ []) go exits (with objects 10) ≡ makes_text (codes "12") 8
  unfolding library_opened digits
  told_long = refl

  least_int : runs class.Math (codes "abs(int)") Null (Int (negsuc 2147483647) ∷ []) go exits (with objects 10) ≡ gives (Int (negsuc 2147483647))
  unfolding library_opened int_wrap
  least_int = refl

  absolute_int : runs class.Math (codes "abs(int)") Null (Int (negsuc 6) ∷ []) go exits (with objects 10) ≡ gives (Int (pos 7))
  unfolding library_opened int_wrap
  absolute_int = refl

  absolute_long : runs class.Math (codes "abs(long)") Null (Long (negsuc 6) ∷ []) go exits (with objects 10) ≡ gives (Long (pos 7))
  unfolding library_opened int_wrap
  absolute_long = refl

  greater_int : runs class.Math (codes "max(int,int)") Null (Int (negsuc 6) ∷ Int (pos 2) ∷ []) go exits (with objects 10) ≡ gives (Int (pos 2))
  unfolding library_opened
  greater_int = refl

  greater_long : runs class.Math (codes "max(long,long)") Null (Long (negsuc 6) ∷ Long (pos 2) ∷ []) go exits (with objects 10) ≡ gives (Long (pos 2))
  unfolding library_opened
  greater_long = refl

  less_int : runs class.Math (codes "min(int,int)") Null (Int (negsuc 6) ∷ Int (pos 2) ∷ []) go exits (with objects 10) ≡ gives (Int (negsuc 6))
  unfolding library_opened
  less_int = refl

  less_long : runs class.Math (codes "min(long,long)") Null (Long (negsuc 6) ∷ Long (pos 2) ∷ []) go exits (with objects 10) ≡ gives (Long (negsuc 6))
  unfolding library_opened
  less_long = refl
