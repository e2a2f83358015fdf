-- Keeping the first value under each key.
use Rattle.std.proofs.Common.{◌≡◌, ℕ, Bool, true, false, ◌&&◌, nat_eq, Option, Some, None, if◌then◌else◌, refl, ap, subst}
use Rattle.std.specs.Option.{option_eq}
use Rattle.std.proofs.lemmas.Bool.{eqb-true}
use Rattle.je_scopes.specs.Scope.{same_place}
use Rattle.name_sites.specs.ByName.{or_else}

both : (a b : Bool) → (a && b) ≡ true → (a ≡ true) × (b ≡ true)
both true b e = (refl, e)
both false b e = absurd (cc e)

pub place_eq : (a b : Option ℕ) → option_eq nat_eq a b ≡ same_place a b
place_eq None None = refl
place_eq None (Some b) = refl
place_eq (Some a) None = refl
place_eq (Some a) (Some b) = refl

same_place-true : (a b : Option ℕ) → same_place a b ≡ true → a ≡ b
same_place-true None None e = refl
same_place-true None (Some b) e = absurd (cc e)
same_place-true (Some a) None e = absurd (cc e)
same_place-true (Some a) (Some b) e = ap Some (eqb-true a b e)

pub or_else-none : (o : Option ℕ) → o ≡ or_else o None
or_else-none None = refl
or_else-none (Some n) = refl

pub keeps : (old new : Option ℕ → ℕ → Option ℕ) (place : Option ℕ) (x value : ℕ) → old place x ≡ None
    → ((p : Option ℕ) (y : ℕ) → new p y ≡ (if (same_place place p && nat_eq x y) then Some value else old p y))
    → (p : Option ℕ) (y : ℕ) → new p y ≡ or_else (old p y) (if (same_place place p && nat_eq x y) then Some value else None)
keeps old new place x value none h p y = of (same_place place p && nat_eq x y) refl
  where
    of : (b : Bool) → (same_place place p && nat_eq x y) ≡ b → new p y ≡ or_else (old p y) (if (same_place place p && nat_eq x y) then Some value else None)
    of true e =
        let q : (same_place place p ≡ true) × (nat_eq x y ≡ true) = both (same_place place p) (nat_eq x y) e in
        let n : old p y ≡ None = subst (λ (z : Option ℕ). old z y ≡ None) (same_place-true place p q.0) (subst (λ (z : ℕ). old place z ≡ None) (eqb-true x y q.1) none) in
        rw (h p y, e, n) refl
    of false e = rw (h p y, e) (or_else-none (old p y))
