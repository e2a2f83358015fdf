-- Worked rows on the members of String, as the Java SE 5 API has them, and what they cost.
use Rattle.std.proofs.Common.{◌≡◌, ℕ, List, [], ◌∷◌, ◌++◌, refl}
use Rattle.std.specs.Prelude.{pos, negsuc, codes, true, false}
use Rattle.std.specs.Fmt.{digits}
use Rattle.std.specs.Int.{int_wrap}
use Rattle.je_core.specs.declared.object.Obj.{Obj}
use Rattle.je_core.specs.declared.object.Obj.TheVariants.{Instance, Array, Text, Builder}
use Rattle.je_core.specs.declared.value.Value.{Value}
use Rattle.je_core.specs.declared.value.Value.TheVariants.{Bool as Truth, Char, Int, Long, Null, Ref}
use Rattle.je_table.specs.declared.classes.LibraryClass.TheVariants as class
use Rattle.je_java.specs.Steps.{Answer, Spent, Run, Exits}
use Rattle.je_java.specs.library.Strings.{char_type}
use Rattle.je_java.specs.way.Opened.{library_opened}
use Rattle.je_java.proofs.Rows.{class_number}
use Rattle.je_java.proofs.library.Program.{runs, reference, with}

-- "hello", "lo", a builder that holds "lo", the chars of "hi", and " hi "
abbrev objects : List Obj
objects = Text (codes "hello") ∷ Text (codes "lo") ∷ Builder (codes "lo") ∷ Array char_type (Char 104 ∷ Char 105 ∷ []) ∷ Text (codes " hi ") ∷ []

abbrev hello : Value
hello = reference 0

abbrev lo : Value
lo = reference 1

abbrev number : ℕ → Value
number n = Int (pos n)

module _ (go : Value → Run) (exits : Exits) where
  -- a value at no cost, after a cost, and a new object after a cost; an exception of a class costs its slot
  abbrev gives : Value → ℕ → Answer
  gives value left = go value (with objects left)

  abbrev makes : Obj → ℕ → Answer
  makes object left = go (reference 5) (with (objects ++ object ∷ []) left)

  abbrev makes_text : List ℕ → ℕ → Answer
  makes_text units left = makes (Text units) left

  abbrev throws : ℕ → ℕ → Answer
  throws class left = exits.throw (record { 0 = 5 }) (with (objects ++ Instance (class_number class) (Null ∷ []) ∷ []) left)

  char_at : runs class.String (codes "charAt(int)") hello (number 1 ∷ []) go exits (with objects 10) ≡ gives (Char 101) 10
  unfolding library_opened
  char_at = refl

  char_past : runs class.String (codes "charAt(int)") hello (number 5 ∷ []) go exits (with objects 10) ≡ throws 37 9
  unfolding library_opened
  char_past = refl

  char_below : runs class.String (codes "charAt(int)") hello (Int (negsuc 0) ∷ []) go exits (with objects 10) ≡ throws 37 9
  unfolding library_opened
  char_below = refl

  smaller : runs class.String (codes "compareTo(String)") hello (lo ∷ []) go exits (with objects 10) ≡ gives (Int (negsuc 3)) 5
  unfolding library_opened int_wrap
  smaller = refl

  -- a member that costs its receiver's length does so though it throws
  compared_to_null : runs class.String (codes "compareTo(String)") hello (Null ∷ []) go exits (with objects 10) ≡ throws 34 4
  unfolding library_opened
  compared_to_null = refl

  joined_texts : runs class.String (codes "concat(String)") hello (lo ∷ []) go exits (with objects 10) ≡ makes_text (codes "hellolo") 3
  unfolding library_opened
  joined_texts = refl

  too_dear : runs class.String (codes "concat(String)") hello (lo ∷ []) go exits (with objects 6) ≡ Spent (with objects 6)
  unfolding library_opened
  too_dear = refl

  ends : runs class.String (codes "endsWith(String)") hello (lo ∷ []) go exits (with objects 10) ≡ gives (Truth true) 5
  unfolding library_opened
  ends = refl

  starts : runs class.String (codes "startsWith(String)") hello (lo ∷ []) go exits (with objects 10) ≡ gives (Truth false) 5
  unfolding library_opened
  starts = refl

  same_text : runs class.String (codes "equals(Object)") hello (hello ∷ []) go exits (with objects 10) ≡ gives (Truth true) 5
  unfolding library_opened
  same_text = refl

  other_text : runs class.String (codes "equals(Object)") hello (lo ∷ []) go exits (with objects 10) ≡ gives (Truth false) 5
  unfolding library_opened
  other_text = refl

  -- a builder is no String, and neither is null
  equal_to_builder : runs class.String (codes "equals(Object)") lo (reference 2 ∷ []) go exits (with objects 10) ≡ gives (Truth false) 8
  unfolding library_opened
  equal_to_builder = refl

  equal_to_null : runs class.String (codes "equals(Object)") lo (Null ∷ []) go exits (with objects 10) ≡ gives (Truth false) 8
  unfolding library_opened
  equal_to_null = refl

  hash : runs class.String (codes "hashCode()") hello ([]) go exits (with objects 10) ≡ gives (Int (pos 99162322)) 5
  unfolding library_opened int_wrap
  hash = refl

  -- 5 times 2
  place_of_part : runs class.String (codes "indexOf(String)") hello (lo ∷ []) go exits (with objects 10) ≡ gives (number 3) 0
  unfolding library_opened int_wrap
  place_of_part = refl

  place_of_null : runs class.String (codes "indexOf(String)") hello (Null ∷ []) go exits (with objects 10) ≡ throws 34 9
  unfolding library_opened
  place_of_null = refl

  place_of_l : runs class.String (codes "indexOf(int)") hello (number 108 ∷ []) go exits (with objects 10) ≡ gives (number 2) 5
  unfolding library_opened int_wrap
  place_of_l = refl

  place_of_no_unit : runs class.String (codes "indexOf(int)") hello (Int (negsuc 0) ∷ []) go exits (with objects 10) ≡ gives (Int (negsuc 0)) 5
  unfolding library_opened
  place_of_no_unit = refl

  how_long : runs class.String (codes "length()") hello ([]) go exits (with objects 10) ≡ gives (number 5) 10
  unfolding library_opened int_wrap
  how_long = refl

  of_chars : runs class.String (codes "new(char[])") Null (reference 3 ∷ []) go exits (with objects 10) ≡ makes_text (codes "hi") 8
  unfolding library_opened
  of_chars = refl

  of_null : runs class.String (codes "new(char[])") Null (Null ∷ []) go exits (with objects 10) ≡ throws 34 9
  unfolding library_opened
  of_null = refl

  replaces : runs class.String (codes "replace(char,char)") hello (Char 108 ∷ Char 114 ∷ []) go exits (with objects 10) ≡ makes_text (codes "herro") 5
  unfolding library_opened
  replaces = refl

  part_to_the_end : runs class.String (codes "substring(int)") hello (number 1 ∷ []) go exits (with objects 10) ≡ makes_text (codes "ello") 6
  unfolding library_opened
  part_to_the_end = refl

  empty_part : runs class.String (codes "substring(int)") hello (number 5 ∷ []) go exits (with objects 10) ≡ makes_text [] 10
  unfolding library_opened
  empty_part = refl

  part_past : runs class.String (codes "substring(int)") hello (number 6 ∷ []) go exits (with objects 10) ≡ throws 37 9
  unfolding library_opened
  part_past = refl

  part : runs class.String (codes "substring(int,int)") hello (number 1 ∷ number 3 ∷ []) go exits (with objects 10) ≡ makes_text (codes "el") 8
  unfolding library_opened
  part = refl

  part_backwards : runs class.String (codes "substring(int,int)") hello (number 1 ∷ number 0 ∷ []) go exits (with objects 10) ≡ throws 37 9
  unfolding library_opened
  part_backwards = refl

  chars : runs class.String (codes "toCharArray()") lo ([]) go exits (with objects 10) ≡ makes (Array char_type (Char 108 ∷ Char 111 ∷ [])) 8
  unfolding library_opened
  chars = refl

  itself : runs class.String (codes "toString()") hello ([]) go exits (with objects 10) ≡ gives hello 10
  unfolding library_opened
  itself = refl

  trims : runs class.String (codes "trim()") (reference 4) ([]) go exits (with objects 10) ≡ makes_text (codes "hi") 8
  unfolding library_opened
  trims = refl

  of_truth : runs class.String (codes "valueOf(boolean)") Null (Truth true ∷ []) go exits (with objects 10) ≡ makes_text (codes "true") 6
  unfolding library_opened
  of_truth = refl

  of_char : runs class.String (codes "valueOf(char)") Null (Char 104 ∷ []) go exits (with objects 10) ≡ makes_text (codes "h") 9
  unfolding library_opened
  of_char = refl

  of_int : runs class.String (codes "valueOf(int)") Null (Int (negsuc 6) ∷ []) go exits (with objects 10) ≡ makes_text (codes "-7") 8
  unfolding library_opened digits
  of_int = refl

  of_long : runs class.String (codes "valueOf(long)") Null (Long (pos 12) ∷ []) go exits (with objects 10) ≡ makes_text (codes "12") 8
  unfolding library_opened digits
  of_long = refl
