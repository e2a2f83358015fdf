-- Full pages, one behind another.
use Rattle.std.specs.Prelude.{◌≡◌, List, [], ◌∷◌, ◌++◌, length}
use Rattle.je_pages.specs.Paging.{page_length}

abbrev pub row_of : {A : Type 0} → List (List A) → List A
row_of [] = []
row_of (p ∷ ps) = p ++ row_of ps

abbrev pub AreFull : {A : Type 0} → List (List A) → Type 0
AreFull [] = Unit {0}
AreFull (p ∷ ps) = (length p ≡ page_length) × AreFull ps
