-- A walk that writes each element of a list in its turn, by its place.
use Rattle.std.proofs.Common.{◌≡◌, ℕ, ◌≤◌, List, [], ◌++◌, length, drop, map, take, sym, ap, ◌∙◌}
use Rattle.std.proofs.lemmas.List.{append-nil, drop-map, drop_all, take-map, take_all}

module _ {V Y : Type 0} (see : V → Y) (all_from : ℕ → List Y → List Y) where
  -- those before a place as they are, and what becomes of the others
  abbrev pub written_to : ℕ → List V → List Y
  written_to at vs = map see (take at vs) ++ all_from at (map see (drop at vs))

  module _ (none : (at : ℕ) → all_from at [] ≡ []) where
    pub all_written : (vs : List V) (at : ℕ) → length vs ≤ at → written_to at vs ≡ map see vs
    all_written vs at past =
        (λ i. map see (take_all at vs past i) ++ all_from at (map see (drop_all at vs past i)))
        ∙ ap (λ (ys : List Y). map see vs ++ ys) (none at)
        ∙ append-nil (map see vs)

    pub written_behind : (vs us : List V) (at n : ℕ) → length vs ≤ at → written_to at vs ≡ written_to n us →
        map see vs ≡ take n (map see us) ++ all_from n (drop n (map see us))
    written_behind vs us at n past so_far =
        sym (all_written vs at past)
        ∙ so_far
        ∙ (λ i. sym (take-map see n us) i ++ all_from n (sym (drop-map see n us) i))
