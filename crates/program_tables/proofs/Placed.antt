-- Lists of what stands at each place, from one on.
use Rattle.std.proofs.Common.{◌≡◌, ℕ, suc, ◌+◌, ◌<◌, List, [], ◌∷◌, ◌++◌, length, drop, get_or, map, sym, ap, ◌∙◌, append_assoc, add-one, drop-cons}
use Rattle.std.proofs.lemmas.List.{map_push}

module _ {V X Y : Type 0} (see : V → Y) (all_from : ℕ → List X → List Y) (one : ℕ → X → Y)
    (next : (at : ℕ) (x : X) (xs : List X) → all_from at (x ∷ xs) ≡ one at x ∷ all_from (suc at) xs) where
  -- with what stands at the next place
  pub placed_further : (xs : List X) (d : X) (at : ℕ) (old new : List V) (v : V) (all : List Y) → at < length xs →
      map see old ++ all_from at (drop at xs) ≡ all → new ≡ old ++ v ∷ [] → see v ≡ one at (get_or xs at d) →
      map see new ++ all_from (at + 1) (drop (at + 1) xs) ≡ all
  placed_further xs d at old new v all within so_far pushed is_one =
      ap (λ (n : ℕ). map see new ++ all_from n (drop n xs)) (add-one at)
      ∙ ap (λ (vs : List V). map see vs ++ all_from (suc at) (drop (suc at) xs)) pushed
      ∙ ap (λ (ys : List Y). ys ++ all_from (suc at) (drop (suc at) xs)) (map_push see old v)
      ∙ append_assoc (map see old) (see v ∷ []) (all_from (suc at) (drop (suc at) xs))
      ∙ ap (λ (y : Y). map see old ++ y ∷ all_from (suc at) (drop (suc at) xs)) is_one
      ∙ ap (λ (ys : List Y). map see old ++ ys) (sym (next at (get_or xs at d) (drop (suc at) xs)))
      ∙ ap (λ (zs : List X). map see old ++ all_from at zs) (sym (drop-cons xs at d within))
      ∙ so_far
