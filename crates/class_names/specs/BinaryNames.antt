-- The binary names of classes (JLS 13.1).
use Rattle.std.specs.Prelude.{ℕ, zero, suc, Bool, true, false, List, [], ◌∷◌, ◌++◌, length, Option, Some, None, unwrap_or, codes, decimal, if◌then◌else◌}
use Rattle.je_base.specs.Names.{text_of}
use Rattle.je_core.specs.declared.types.ClassId.{ClassId}
use Rattle.je_core.specs.declared.program.Sort.{Sort}
use Rattle.je_core.specs.declared.program.Sort.TheVariants as sort
use Rattle.je_core.specs.Core.{CoreClass, CoreProgram}
use Rattle.je_classes.specs.Hierarchy.{class_at}

abbrev pub is_local_sort : Sort → Bool
is_local_sort sort.Local = true
is_local_sort sort.Anonymous = true
is_local_sort _ = false

abbrev pub within_in : Option CoreClass → Option ClassId
within_in None = None
within_in (Some class) = class.within

abbrev pub with_round : (ClassId → List ClassId) → ClassId → Option ClassId → List ClassId
with_round round c None = c ∷ []
with_round round c (Some d) = c ∷ round d

-- a class and those round it, innermost first, so many at most
abbrev pub round_within : CoreProgram → ℕ → ClassId → List ClassId
round_within program zero c = []
round_within program (suc n) c = with_round (round_within program n) c (within_in (class_at program c))

-- what no number names has no text
abbrev pub text_in : List (List ℕ) → Option CoreClass → List ℕ
text_in texts None = []
text_in texts (Some class) = unwrap_or (text_of texts class.name) []

-- of a local or anonymous class
abbrev pub number_in : Option CoreClass → List ℕ
number_in None = []
number_in (Some class) = if is_local_sort class.kind.sort then decimal class.nth else []

abbrev pub simple_text : CoreProgram → List (List ℕ) → ClassId → List ℕ
simple_text program texts c = text_in texts (class_at program c)

abbrev pub number_text : CoreProgram → ClassId → List ℕ
number_text program c = number_in (class_at program c)

-- what a class adds to the name of the innermost class round it
abbrev pub inner_text : CoreProgram → List (List ℕ) → ClassId → List ℕ
inner_text program texts c = codes "$" ++ number_text program c ++ simple_text program texts c

abbrev pub binary_text : CoreProgram → List (List ℕ) → List ClassId → List ℕ
binary_text program texts [] = []
binary_text program texts (c ∷ []) = simple_text program texts c
binary_text program texts (c ∷ d ∷ round) = binary_text program texts (d ∷ round) ++ inner_text program texts c

-- A class that is in no other one, as each of the library, has its own name. No class is round itself, so that a chain of
-- classes round each other is no longer than the program has classes.
unfoldable pub binary_name : CoreProgram → List (List ℕ) → ClassId → List ℕ
binary_name program texts c = binary_text program texts (round_within program (length program.classes) c)
