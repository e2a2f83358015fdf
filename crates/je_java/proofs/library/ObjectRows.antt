-- Worked rows on the members of Object and Throwable, as the Java SE 5 API has them, and of the rows, and what they cost.
use Rattle.std.proofs.Common.{◌≡◌, ℕ, List, [], ◌∷◌, ◌++◌, refl}
use Rattle.std.specs.Prelude.{pos, negsuc, codes, true, false}
use Rattle.std.specs.Int.{int_wrap}
use Rattle.je_core.specs.declared.object.Obj.{Obj}
use Rattle.je_core.specs.declared.object.Obj.TheVariants.{Instance, Array, Text, Row}
use Rattle.je_core.specs.declared.value.Value.{Value}
use Rattle.je_core.specs.declared.value.Value.TheVariants.{Bool as Truth, Int, Null}
use Rattle.je_table.specs.declared.classes.LibraryClass.TheVariants as class
use Rattle.je_java.specs.Steps.{Answer, Wrong, Run, Exits}
use Rattle.je_java.specs.way.Opened.{library_opened}
use Rattle.je_java.proofs.Rows.{int, class_number}
use Rattle.je_java.proofs.library.Program.{runs, reference, with}

-- a RuntimeException without a message, "ab", a Refused with the code 3, an array of ints, and a row of them
abbrev objects_with : Value → List Obj
objects_with message =
    Instance (class_number 26) (message ∷ []) ∷ Text (codes "ab") ∷ Instance (class_number 23) (Null ∷ Int (pos 3) ∷ []) ∷
    Array int (Int (pos 7) ∷ Int (pos 8) ∷ []) ∷ Row (class_number 16) (Int (pos 7) ∷ Int (pos 8) ∷ []) ∷ []

abbrev objects : List Obj
objects = objects_with Null

module _ (go : Value → Run) (exits : Exits) where
  abbrev gives : Value → Answer
  gives value = go value (with objects 10)

  itself : runs class.Object (codes "equals(Object)") (reference 3) (reference 3 ∷ []) go exits (with objects 10) ≡ gives (Truth true)
  unfolding library_opened
  itself = refl

  another : runs class.Object (codes "equals(Object)") (reference 3) (reference 4 ∷ []) go exits (with objects 10) ≡ gives (Truth false)
  unfolding library_opened
  another = refl

  not_null : runs class.Object (codes "equals(Object)") (reference 3) (Null ∷ []) go exits (with objects 10) ≡ gives (Truth false)
  unfolding library_opened
  not_null = refl

  begins_object : runs class.Object (codes "new()") (reference 0) ([]) go exits (with objects 10) ≡ gives Null
  unfolding library_opened
  begins_object = refl

  -- wild members have no case yet
  wild : runs class.Object (codes "hashCode()") (reference 0) ([]) go exits (with objects 10) ≡ Wrong
  unfolding library_opened
  wild = refl

  begins_token : runs class.Token (codes "new()") (reference 0) ([]) go exits (with objects 10) ≡ gives Null
  unfolding library_opened
  begins_token = refl

  keeps_message : runs class.RuntimeException (codes "new(String)") (reference 0) (reference 1 ∷ []) go exits (with objects 10) ≡ go (reference 1) (with (objects_with (reference 1)) 10)
  unfolding library_opened
  keeps_message = refl

  begins_throwable : runs class.RuntimeException (codes "new()") (reference 0) ([]) go exits (with objects 10) ≡ gives Null
  unfolding library_opened
  begins_throwable = refl

  message : runs class.Throwable (codes "getMessage()") (reference 0) ([]) go exits (with (objects_with (reference 1)) 10) ≡ go (reference 1) (with (objects_with (reference 1)) 10)
  unfolding library_opened
  message = refl

  code : runs class.Refused (codes "code()") (reference 2) ([]) go exits (with objects 10) ≡ gives (Int (pos 3))
  unfolding library_opened
  code = refl

  new_row : runs class.IntRow (codes "new(int[])") Null (reference 3 ∷ []) go exits (with objects 10) ≡ go (reference 5) (with (objects ++ Row (class_number 16) (Int (pos 7) ∷ Int (pos 8) ∷ []) ∷ []) 8)
  unfolding library_opened
  new_row = refl

  value : runs class.IntRow (codes "get(int)") (reference 4) (Int (pos 1) ∷ []) go exits (with objects 10) ≡ gives (Int (pos 8))
  unfolding library_opened
  value = refl

  value_past : runs class.IntRow (codes "get(int)") (reference 4) (Int (pos 2) ∷ []) go exits (with objects 10) ≡ exits.throw (record { 0 = 5 }) (with (objects ++ Instance (class_number 36) (Null ∷ []) ∷ []) 9)
  unfolding library_opened
  value_past = refl

  size : runs class.IntRow (codes "size()") (reference 4) ([]) go exits (with objects 10) ≡ gives (Int (pos 2))
  unfolding library_opened int_wrap
  size = refl

  -- the other rows are made alike
  new_row_of_references : runs class.ConstRow (codes "new(Immutable[])") Null (reference 3 ∷ []) go exits (with objects 10) ≡ go (reference 5) (with (objects ++ Row (class_number 15) (Int (pos 7) ∷ Int (pos 8) ∷ []) ∷ []) 8)
  unfolding library_opened
  new_row_of_references = refl

  new_row_of_texts : runs class.TextRow (codes "new(String[])") Null (reference 3 ∷ []) go exits (with objects 10) ≡ go (reference 5) (with (objects ++ Row (class_number 17) (Int (pos 7) ∷ Int (pos 8) ∷ []) ∷ []) 8)
  unfolding library_opened
  new_row_of_texts = refl
