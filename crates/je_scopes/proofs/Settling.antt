-- What one round settles each later round gives.
use Rattle.std.proofs.Common.{◌≡◌, ℕ, zero, suc, ◌+◌, ◌≤◌, List, length, Option, Some, None, refl, subst, arith}
use Rattle.std.specs.Prelude.{◌-◌}
use Rattle.je_scopes.specs.Source.{Source}
use Rattle.je_scopes.specs.Settled.{settled, settled_within}
use Rattle.je_scopes.specs.Laws.{Extends, SettledStays, SettledHolds}
use Rattle.je_scopes.proofs.Growing.{header-kept}

pub stays-once : (p : Source) (n : ℕ) → Extends (settled_within p n) (settled_within p (suc n))
stays-once p zero c ds e = absurd (cc)
stays-once p (suc n) c ds e = header-kept p (settled_within p n) (settled_within p (suc n)) (stays-once p n) c ds e

pub settled_stays : SettledStays
settled_stays p zero n c ds e = subst (λ k. settled_within p k c ≡ Some ds) (let z : n ≡ 0 + n = omega arith in z) e
settled_stays p (suc m) n c ds e = subst (λ k. settled_within p k c ≡ Some ds) (let z : suc (m + n) ≡ suc m + n = omega arith in z)
    (stays-once p (m + n) c ds (settled_stays p m n c ds e))

stays-to : (p : Source) (n m : ℕ) → n ≤ m → Extends (settled_within p n) (settled_within p m)
stays-to p n m h c ds e = subst (λ k. settled_within p k c ≡ Some ds) (let z : (m - n) + n ≡ m = omega arith in z) (settled_stays p (m - n) n c ds e)

pub one-answer : (p : Source) (n m c : ℕ) (ds es : List ℕ) → settled_within p n c ≡ Some ds → settled_within p m c ≡ Some es → ds ≡ es
one-answer p n m c ds es e f =
    let a : settled_within p (n + m) c ≡ Some ds = stays-to p n (n + m) (omega arith) c ds e in
    let b : settled_within p (n + m) c ≡ Some es = stays-to p m (n + m) (omega arith) c es f in
    cc

pub option-cases : (o : Option (List ℕ)) (P : Option (List ℕ) → Type 0) → (o ≡ None → P None) → ((ds : List ℕ) → o ≡ Some ds → P (Some ds)) → P o
option-cases None P a b = a refl
option-cases (Some ds) P a b = b ds refl

pub settled_holds : SettledHolds
unfolding settled
settled_holds p c ds e = stays-once p (suc (length p.sites)) c ds e
