-- Lists with one more at the end.
use Rattle.std.proofs.Common.{◌≡◌, ℕ, ◌+◌, ◌<◌, List, [], ◌∷◌, ◌++◌, length, get_or, take, sym, ◌∙◌, ap, inl, inr}
use Rattle.std.specs.Prelude.{◌⊎◌, map}
use Rattle.std.specs.List.{Contains}
use Rattle.std.proofs.lemmas.List.{map-append, take_more}
use Rattle.je_classes.proofs.Lists.{contains-here, contains-cases}
use Rattle.je_scopes.proofs.Either.{by_either, nothing-in}
use Rattle.je_scopes.proofs.Lists.{in-either, in-right}

pub in-snoc : {A : Type 0} (xs : List A) (x y : A) → Contains (xs ++ x ∷ []) y → Contains xs y ⊎ (x ≡ y)
in-snoc xs x y q = by_either (λ r. inl r) (λ r. by_either (λ e. inr e) (λ s. absurd (nothing-in y s)) (contains-cases x y [] r)) (in-either xs (x ∷ []) y q)

pub at-snoc : {A : Type 0} (xs : List A) (x : A) → Contains (xs ++ x ∷ []) x
at-snoc xs x = in-right xs (x ∷ []) x (contains-here x [])

pub map-take-more : {A B : Type 0} (f : A → B) (xs : List A) (i : ℕ) (x : A) → i < length xs → x ≡ get_or xs i x → map f (take (i + 1) xs) ≡ map f (take i xs) ++ f x ∷ []
map-take-more f xs i x l e = ap (map f) (take_more xs i x l) ∙ map-append f (take i xs) (get_or xs i x ∷ []) ∙ ap (λ y. map f (take i xs) ++ f y ∷ []) (sym e)
