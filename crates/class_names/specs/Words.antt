-- The words of the library, and texts that have a number.
use Rattle.std.specs.Prelude.{◌≡◌, ℕ, true, List, [], ◌∷◌, ◌++◌, map, Some, is_some, codes}
use Rattle.std.specs.List.{Contains}
use Rattle.je_base.specs.declared.span.NameId.{NameId}
use Rattle.je_base.specs.Names.{interned, number_of}
use Rattle.je_table.specs.Library.{Class, Member, classes, library}

unfoldable pub class_words : List (List ℕ)
class_words = map (λ (c : Class). c.name) classes

unfoldable pub member_words : List (List ℕ)
member_words = map (λ (m : Member). m.name) library

-- the fields of each enum and its method `values`, the fields of exceptions, and the method by which the rules know a finalizer
unfoldable pub further_words : List (List ℕ)
further_words = codes "name" ∷ codes "ordinal" ∷ codes "values" ∷ codes "message" ∷ codes "code" ∷ codes "finalize" ∷ []

unfoldable pub library_words : List (List ℕ)
library_words = [] ∷ class_words ++ member_words ++ further_words

-- the texts, and then each of these, in order, that has no number yet
abbrev pub all_interned : List (List ℕ) → List (List ℕ) → List (List ℕ)
all_interned texts [] = texts
all_interned texts (word ∷ words) = all_interned (interned texts word) words

abbrev pub AreNumbered : List (List ℕ) → List (List ℕ) → Type 0
AreNumbered texts words = (word : List ℕ) → Contains words word → is_some (number_of texts word) ≡ true

-- each text that had a number has it still
abbrev pub StayNumbered : List (List ℕ) → List (List ℕ) → Type 0
StayNumbered before after = (text : List ℕ) (id : NameId) → number_of before text ≡ Some id → number_of after text ≡ Some id
