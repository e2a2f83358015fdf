-- Tables in the order of their keys (texts in the order of their bytes, as Rust's `Ord` has it for `str`), and the
-- first row that has a key.
use Rattle.std.specs.Prelude.{ℕ, Bool, true, not, ◌&&◌, List, [], ◌∷◌, map, Option}
use Rattle.std.specs.Cmp.Lexicographic.{slice_cmp}
use Rattle.std.specs.List.{position}
use Rattle.std.specs.Ordering.{is_gt, nat_cmp}
use Rattle.std.specs.Str.{bytes_eq}
use Rattle.std.specs.declared.cmp.Ordering.{Ordering}
use Rattle.std.proofs.Common.{Bor}

-- x is not after the first of xs
abbrev pub leads : {X : Type 0} → (X → X → Ordering) → X → List X → Bool
leads cmp x [] = true
leads cmp x (y ∷ ys) = not (is_gt (cmp x y))

-- no row is after the next one: equal rows may stand
abbrev pub is_sorted : {X : Type 0} → (X → X → Ordering) → List X → Bool
is_sorted cmp [] = true
is_sorted cmp (x ∷ xs) = leads cmp x xs && is_sorted cmp xs

-- the order of two texts
abbrev pub text_cmp : List ℕ → List ℕ → Ordering
text_cmp = slice_cmp nat_cmp

-- the texts that a table of words has
abbrev pub texts : List (Bor (List ℕ)) → List (List ℕ)
texts = map (λ row. row.now)

-- the place of the first text that is the word
abbrev pub place_of : List ℕ → List (List ℕ) → Option ℕ
place_of word = position (λ text. bytes_eq text word)
