-- A list that grows by one for each number.
use Rattle.std.proofs.Common.{◌≡◌, ℕ, ◌+◌, List, [], ◌∷◌, ◌++◌, map, refl, sym, ap, ◌∙◌, add-one}
use Rattle.std.proofs.lemmas.List.{map-append}
use Rattle.je_scopes.specs.Faults.{below}

module _ {E D : Type 0} (show : E → D) (f : ℕ → D) where
  pub one_more_below : (es new : List E) (e : E) (at : ℕ) → new ≡ es ++ e ∷ [] → show e ≡ f at → map show es ≡ map f (below at) → map show new ≡ map f (below (at + 1))
  one_more_below es new e at grown same before =
      ap (map show) grown ∙ map-append show es (e ∷ []) ∙ ap (λ ds. ds ++ show e ∷ []) before ∙ ap (λ d. map f (below at) ++ d ∷ []) same
      ∙ sym (map-append f (below at) (at ∷ [])) ∙ next
    where
      next : map f (below at ++ at ∷ []) ≡ map f (below (at + 1))
      next = rw add-one refl
