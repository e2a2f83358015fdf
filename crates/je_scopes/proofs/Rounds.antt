-- Each round settles a class more, until one settles none.
use Rattle.std.proofs.Common.{◌≡◌, ℕ, zero, suc, ◌<◌, ◌≤◌, List, [], ◌∷◌, length, Option, Some, None, refl, sym, subst, arith, inl, inr}
use Rattle.std.specs.Prelude.{Bool, true, false, ◌⊎◌, slice_get}
use Rattle.je_scopes.specs.Source.{Source}
use Rattle.std.proofs.lemmas.Option.{slice_get_past}
use Rattle.je_scopes.specs.Scope.{Known}
use Rattle.je_scopes.specs.Settled.{settled, settled_within}
use Rattle.je_scopes.specs.Laws.{Extends, header_of, ReadingSettles, AnyOrderDecides, RoundsSuffice}
use Rattle.je_scopes.proofs.Either.{by_either, bool_split, nat_split, within_or_past}
use Rattle.je_classes.proofs.Counts.{counted, counted-le, counted-lt, all-true}
use Rattle.je_scopes.proofs.Growing.{header-kept}
use Rattle.je_scopes.proofs.Settling.{stays-once, one-answer, option-cases}

abbrev is_known : Option (List ℕ) → Bool
is_known None = false
is_known (Some ds) = true

record New (f g : ℕ → Bool) (n : ℕ) : Type 0 where
  at : ℕ
  within : at < n
  before : f at ≡ false
  after : g at ≡ true

search_new : (f g : ℕ → Bool) (n : ℕ) → ((c : ℕ) → c < n → g c ≡ true → f c ≡ true) ⊎ New f g n
search_new f g zero = inl (λ c l e. absurd (omega arith))
search_new f g (suc n) = by_either
    (λ h. by_either
    (λ e. inl (λ c l q. by_either (λ s. subst (λ k. f k ≡ true) (sym s) e) (λ s. h c s q) (nat_split c n l)))
    (λ e. by_either (λ a. inr (record { at = n; within = omega arith; before = e; after = a }))
    (λ a. inl (λ c l q. by_either (λ s. let r : g n ≡ true = subst (λ k. g k ≡ true) s q in absurd (cc)) (λ s. h c s q) (nat_split c n l)))
    (bool_split (g n)))
    (bool_split (f n)))
    (λ w. let l : w.at < n = w.within in inr (record { at = w.at; within = omega arith; before = w.before; after = w.after }))
    (search_new f g n)

known-some : (o : Option (List ℕ)) (ds : List ℕ) → o ≡ Some ds → is_known o ≡ true
known-some o ds e = rw e refl

module _ (p : Source) where
  size : ℕ → ℕ
  size n = counted (λ c. is_known (settled_within p n c)) (length p.sites)

  abbrev Stable : ℕ → Type 0
  Stable n = Extends (settled_within p (suc n)) (settled_within p n)

  next : (n : ℕ) → Stable n → Stable (suc n)
  next n h = header-kept p (settled_within p (suc n)) (settled_within p n) h

  pub past-settled : (n c : ℕ) → length p.sites ≤ c → settled_within p (suc n) c ≡ Some []
  past-settled n c h = let e : slice_get p.sites c ≡ None = slice_get_past p.sites c h in rw e refl

  same-known : (n c : ℕ) (ds : List ℕ) → is_known (settled_within p n c) ≡ true → settled_within p (suc n) c ≡ Some ds → settled_within p n c ≡ Some ds
  same-known n c ds k e = option-cases (settled_within p n c) (λ o. is_known o ≡ true → o ≡ Some ds) (λ f q. absurd (cc))
      (λ es f q. let r : es ≡ ds = one-answer p n (suc n) c es ds f e in rw r refl) k

  still-known : (n c : ℕ) → is_known (settled_within p n c) ≡ true → is_known (settled_within p (suc n) c) ≡ true
  still-known n c k = option-cases (settled_within p n c) (λ o. is_known o ≡ true → is_known (settled_within p (suc n) c) ≡ true) (λ f q. absurd (cc))
      (λ ds f q. known-some _ ds (stays-once p n c ds f)) k

  more : (n : ℕ) → Stable (suc n) ⊎ (size (suc n) < size (suc (suc n)))
  unfolding size
  more n = by_either
      (λ h. inl (λ c ds e. by_either (λ l. same-known (suc n) c ds (h c l (known-some _ ds e)) e)
      (λ l. let a : settled_within p (suc n) c ≡ Some [] = past-settled n c l in
      let b : settled_within p (suc (suc n)) c ≡ Some [] = past-settled (suc n) c l in cc)
      (within_or_past c (length p.sites))))
      (λ w. inr (counted-lt (λ c. is_known (settled_within p (suc n) c)) (λ c. is_known (settled_within p (suc (suc n)) c)) (length p.sites) (λ d l e. still-known (suc n) d e) w.at w.within w.before w.after))
      (search_new (λ c. is_known (settled_within p (suc n) c)) (λ c. is_known (settled_within p (suc (suc n)) c)) (length p.sites))

  size-most : (n : ℕ) → size n ≤ length p.sites
  unfolding size
  size-most n = let a : counted (λ c. is_known (settled_within p n c)) (length p.sites) ≤ counted (λ d. true) (length p.sites) = counted-le (λ c. is_known (settled_within p n c)) (λ d. true) (length p.sites) (λ d l e. refl) in
      let b : counted (λ d. true) (length p.sites) ≡ length p.sites = all-true (length p.sites) in omega arith

  grows : (n : ℕ) → Stable (suc n) ⊎ (n < size (suc (suc n)))
  grows zero = by_either (λ s. inl s) (λ l. let h : size 1 < size 2 = l in inr (omega arith)) (more 0)
  grows (suc n) = by_either (λ s. inl (next (suc n) s))
      (λ l. by_either (λ s. inl s) (λ k. let h : size (suc (suc n)) < size (suc (suc (suc n))) = k in let g : n < size (suc (suc n)) = l in inr (omega arith)) (more (suc n)))
      (grows n)

  pub rounds-suffice : Stable (suc (length p.sites))
  rounds-suffice = by_either (λ s. s) (λ l. let h : length p.sites < size (suc (suc (length p.sites))) = l in let g : size (suc (suc (length p.sites))) ≤ length p.sites = size-most _ in absurd (omega arith)) (grows (length p.sites))

pub rounds_suffice : RoundsSuffice
unfolding settled
rounds_suffice p = rounds-suffice p

pub reading_settles : ReadingSettles
unfolding settled
reading_settles p known h c ds e = rounds-suffice p c ds (header-kept p known (settled p) h c ds e)

module _ (p : Source) (known : Known) (h : Extends known (settled_within p (suc (length p.sites)))) (w : (c : ℕ) → known c ≡ None → header_of p known c ≡ None) where
  all-known : (m : ℕ) → Extends (settled_within p m) known
  all-known zero c ds e = absurd (cc)
  all-known (suc m) c ds e = option-cases (known c) (λ o. o ≡ Some ds)
      (λ f. let a : header_of p known c ≡ Some ds = header-kept p (settled_within p m) known (all-known m) c ds e in
      let b : header_of p known c ≡ None = w c f in absurd (cc))
      (λ es f. let a : es ≡ ds = one-answer p (suc (length p.sites)) (suc m) c es ds (h c es f) e in rw a refl)

pub any_order_decides : AnyOrderDecides
unfolding settled
any_order_decides p known h w c = option-cases (known c) (λ o. settled p c ≡ o)
    (λ e. option-cases (settled p c) (λ o. o ≡ None) (λ f. refl) (λ ds f. let a : known c ≡ Some ds = all-known p known h w (suc (length p.sites)) c ds f in absurd (cc)))
    (λ ds e. h c ds e)
