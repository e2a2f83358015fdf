-- Where an element that passes a test stands among those that do.
use Rattle.std.proofs.Common.{◌≡◌, ℕ, zero, suc, List, [], ◌∷◌, length, take, Some, sym, ap, ◌∙◌}
use Rattle.std.specs.Prelude.{Bool, true, false, cond, filter, count_by, slice_get}
use Rattle.std.proofs.lemmas.List.Sums.{length-filter}
use Rattle.std.proofs.lemmas.Option.{same_Some}

module _ {A : Type 0} (test : A → Bool) where
  among : (xs : List A) (at : ℕ) (x : A) → slice_get xs at ≡ Some x → test x ≡ true → slice_get (filter test xs) (length (filter test (take at xs))) ≡ Some x
  among [] at x e t = absurd cc
  among (y ∷ xs) zero x e t = ap (λ b. slice_get (cond b (y ∷ filter test xs) (filter test xs)) 0) (ap test (same_Some y x e) ∙ t) ∙ e
  among (y ∷ xs) (suc at) x e t = by (test y) (among xs at x e t)
    where
      by : (b : Bool) → slice_get (filter test xs) (length (filter test (take at xs))) ≡ Some x →
          slice_get (cond b (y ∷ filter test xs) (filter test xs)) (length (cond b (y ∷ filter test (take at xs)) (filter test (take at xs)))) ≡ Some x
      by true h = h
      by false h = h

  -- its place is how many before it pass
  pub kept-at : (xs : List A) (at : ℕ) (x : A) → slice_get xs at ≡ Some x → test x ≡ true → slice_get (filter test xs) (count_by test (take at xs)) ≡ Some x
  kept-at xs at x e t = ap (slice_get (filter test xs)) (sym (length-filter test (take at xs))) ∙ among xs at x e t
