-- Keeping the first class at each place.
use Rattle.std.proofs.Common.{◌≡◌, ℕ, Bool, true, false, ◌&&◌, nat_eq, Option, Some, None, if◌then◌else◌, refl, sym, ap, ◌∙◌, arith}
use Rattle.std.proofs.lemmas.Bool.{eqb-true}
use Rattle.std.proofs.lemmas.Bool.Decides.{nat_tests}
use Rattle.name_sites.specs.ByName.{or_else}

both : (a b : Bool) → (if a then b else false) ≡ true → (a ≡ true) × (b ≡ true)
both true b e = (refl, e)
both false b e = absurd (cc e)

-- a place that stands at another one has the same class
there : (old : ℕ → ℕ → Option ℕ) (f s g t : ℕ) → (if nat_eq g f then nat_eq t s else false) ≡ true → old g t ≡ old f s
there old f s g t e =
    let q : (nat_eq g f ≡ true) × (nat_eq t s ≡ true) = both (nat_eq g f) (nat_eq t s) e in
    ap (λ (k : ℕ). old k t) (eqb-true g f q.0) ∙ ap (old f) (eqb-true t s q.1)

swapped : (f s g t : ℕ) → (if nat_eq g f then nat_eq t s else false) ≡ (nat_eq f g && nat_eq s t)
swapped f s g t = (λ i. if turned g f i then turned t s i else false) ∙ of (nat_eq f g) (nat_eq s t)
  where
    turned : (m n : ℕ) → nat_eq m n ≡ nat_eq n m
    turned m n = grind (arith, nat_tests)

    of : (a b : Bool) → (if a then b else false) ≡ (a && b)
    of true b = refl
    of false b = refl

pub puts : (old new : ℕ → ℕ → Option ℕ) (f s value : ℕ) → None ≡ old f s → ((g t : ℕ) → new g t ≡ (if (nat_eq f g && nat_eq s t) then Some value else old g t))
    → (g t : ℕ) → new g t ≡ or_else (old g t) (if (if nat_eq g f then nat_eq t s else false) then Some value else None)
puts old new f s value none put g t = put g t ∙ ap (λ (b : Bool). if b then Some value else old g t) (sym (swapped f s g t)) ∙ of (if nat_eq g f then nat_eq t s else false) refl
  where
    kept : (o : Option ℕ) → o ≡ or_else o None
    kept None = refl
    kept (Some n) = refl

    of : (b : Bool) → (if nat_eq g f then nat_eq t s else false) ≡ b → (if b then Some value else old g t) ≡ or_else (old g t) (if b then Some value else None)
    of true e = rw (there old f s g t e ∙ sym none) refl
    of false e = kept (old g t)
