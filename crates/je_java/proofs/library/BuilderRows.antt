-- Worked rows on the members of StringBuilder, as the Java SE 5 API has them, and what they cost.
use Rattle.std.proofs.Common.{◌≡◌, ℕ, List, [], ◌∷◌, ◌++◌, length, refl}
use Rattle.std.specs.Prelude.{pos, negsuc, codes, true, false}
use Rattle.std.specs.Fmt.{digits}
use Rattle.std.specs.Int.{int_wrap}
use Rattle.je_core.specs.declared.object.Obj.{Obj}
use Rattle.je_core.specs.declared.object.Obj.TheVariants.{Instance, Text, Builder}
use Rattle.je_core.specs.declared.value.Value.{Value}
use Rattle.je_core.specs.declared.value.Value.TheVariants.{Bool as Truth, Char, Int, Long, Null}
use Rattle.je_table.specs.declared.classes.LibraryClass.TheVariants as class
use Rattle.je_java.specs.Steps.{Answer, Run, Exits}
use Rattle.je_java.specs.way.Opened.{library_opened}
use Rattle.je_java.proofs.Rows.{class_number}
use Rattle.text_members.specs.Changes.{has_room}
use Rattle.je_java.proofs.library.Program.{runs, reference, with}

-- an empty builder, one that holds "abc", and "ab"
abbrev objects : List Obj
objects = Builder [] ∷ Builder (codes "abc") ∷ Text (codes "ab") ∷ []

abbrev empty : Value
empty = reference 0

abbrev abc : Value
abc = reference 1

abbrev ab : Value
ab = reference 2

abbrev number : ℕ → Value
number n = Int (pos n)

module _ (go : Value → Run) (exits : Exits) where
  abbrev gives : Value → ℕ → Answer
  gives value left = go value (with objects left)

  -- with other units in a builder
  abbrev gives_with : Value → List ℕ → List ℕ → ℕ → Answer
  gives_with value in_first in_second left = go value (with (Builder in_first ∷ Builder in_second ∷ Text (codes "ab") ∷ []) left)

  abbrev makes : Obj → ℕ → Answer
  makes object left = go (reference 3) (with (objects ++ object ∷ []) left)

  abbrev throws : ℕ → ℕ → Answer
  throws class left = exits.throw (record { 0 = 3 }) (with (objects ++ Instance (class_number class) (Null ∷ []) ∷ []) left)

  appends : runs class.StringBuilder (codes "append(String)") empty (ab ∷ []) go exits (with objects 10) ≡ gives_with empty (codes "ab") (codes "abc") 8
  unfolding library_opened
  appends = refl

  appends_null : runs class.StringBuilder (codes "append(String)") abc (Null ∷ []) go exits (with objects 10) ≡ gives_with abc [] (codes "abcnull") 6
  unfolding library_opened
  appends_null = refl

  appends_truth : runs class.StringBuilder (codes "append(boolean)") empty (Truth false ∷ []) go exits (with objects 10) ≡ gives_with empty (codes "false") (codes "abc") 5
  unfolding library_opened
  appends_truth = refl

  appends_char : runs class.StringBuilder (codes "append(char)") abc (Char 100 ∷ []) go exits (with objects 10) ≡ gives_with abc [] (codes "abcd") 9
  unfolding library_opened
  appends_char = refl

  appends_int : runs class.StringBuilder (codes "append(int)") empty (Int (negsuc 6) ∷ []) go exits (with objects 10) ≡ gives_with empty (codes "-7") (codes "abc") 8
  unfolding library_opened digits
  appends_int = refl

  appends_long : runs class.StringBuilder (codes "append(long)") empty (Long (pos 12) ∷ []) go exits (with objects 10) ≡ gives_with empty (codes "12") (codes "abc") 8
  unfolding library_opened digits
  appends_long = refl

  char_at : runs class.StringBuilder (codes "charAt(int)") abc (number 1 ∷ []) go exits (with objects 10) ≡ gives (Char 98) 10
  unfolding library_opened
  char_at = refl

  char_past : runs class.StringBuilder (codes "charAt(int)") abc (number 3 ∷ []) go exits (with objects 10) ≡ throws 37 9
  unfolding library_opened
  char_past = refl

  deletes : runs class.StringBuilder (codes "deleteCharAt(int)") abc (number 1 ∷ []) go exits (with objects 10) ≡ gives_with abc [] (codes "ac") 7
  unfolding library_opened
  deletes = refl

  deletes_past : runs class.StringBuilder (codes "deleteCharAt(int)") abc (number 3 ∷ []) go exits (with objects 10) ≡ throws 37 6
  unfolding library_opened
  deletes_past = refl

  how_long : runs class.StringBuilder (codes "length()") abc ([]) go exits (with objects 10) ≡ gives (number 3) 10
  unfolding library_opened int_wrap
  how_long = refl

  new_empty : runs class.StringBuilder (codes "new()") Null ([]) go exits (with objects 10) ≡ makes (Builder []) 10
  unfolding library_opened
  new_empty = refl

  new_of_text : runs class.StringBuilder (codes "new(String)") Null (ab ∷ []) go exits (with objects 10) ≡ makes (Builder (codes "ab")) 8
  unfolding library_opened
  new_of_text = refl

  new_of_null : runs class.StringBuilder (codes "new(String)") Null (Null ∷ []) go exits (with objects 10) ≡ throws 34 9
  unfolding library_opened
  new_of_null = refl

  sets : runs class.StringBuilder (codes "setCharAt(int,char)") abc (number 0 ∷ Char 120 ∷ []) go exits (with objects 10) ≡ gives_with Null [] (codes "xbc") 7
  unfolding library_opened
  sets = refl

  told : runs class.StringBuilder (codes "toString()") abc ([]) go exits (with objects 10) ≡ makes (Text (codes "abc")) 7
  unfolding library_opened
  told = refl

  -- where a builder has no room it throws, and nothing is added or paid for but the exception
  no_room : (units : List ℕ) → has_room (length units) 2 ≡ false → runs class.StringBuilder (codes "append(String)") (reference 0) (reference 1 ∷ []) go exits (with (Builder units ∷ Text (codes "ab") ∷ []) 10) ≡
      exits.throw (record { 0 = 2 }) (with (Builder units ∷ Text (codes "ab") ∷ Instance (class_number 31) (Null ∷ []) ∷ []) 9)
  unfolding library_opened
  no_room units h = rw h refl
