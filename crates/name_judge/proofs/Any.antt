-- A test of some of a list, element by element.
use Rattle.std.proofs.Common.{◌≡◌, ℕ, ◌+◌, ◌<◌, ◌≤◌, List, length, map, drop, get_or, refl, sym, ◌∙◌, ap, add-one, drop-cons}
use Rattle.std.specs.Prelude.{Bool, ◌||◌}
use Rattle.std.specs.List.{list_any}
use Rattle.std.proofs.Math.Bool.{or_assoc, or-false}
use Rattle.std.proofs.Math.ListN.{drop_of_length-le}

module _ {X Y : Type 0} (test : Y → Bool) (see : X → Y) (xs : List X) (i : ℕ) where
  -- by what is so of those before, and of those that are left
  pub any_next : (d : X) (old new whole : Bool) → i < length xs → (old || list_any test (map see (drop i xs))) ≡ whole → new ≡ (old || test (see (get_or xs i d)))
      → (new || list_any test (map see (drop (i + 1) xs))) ≡ whole
  any_next d old new whole within l n =
      ap (λ (b : Bool). b || list_any test (map see (drop (i + 1) xs))) n
      ∙ or_assoc old (test (see (get_or xs i d))) (list_any test (map see (drop (i + 1) xs)))
      ∙ ap (λ (b : Bool). old || b) (rw (add-one, drop-cons xs i d) refl)
      ∙ l

  pub any_end : (now whole : Bool) → length xs ≤ i → (now || list_any test (map see (drop i xs))) ≡ whole → now ≡ whole
  any_end now whole past l =
      sym (or-false now) ∙ ap (λ (ys : List X). now || list_any test (map see ys)) (sym (drop_of_length-le xs past)) ∙ l
