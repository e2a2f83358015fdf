-- Tests for equality, and both cases of a test.
use Rattle.std.proofs.Common.{◌≡◌, ℕ, Bool, true, false, nat_eq, Option, Some, None, refl, sym, ap}
use Rattle.std.specs.Option.{option_eq}
use Rattle.std.specs.Prelude.{◌&&◌}
use Rattle.std.proofs.lemmas.Bool.{eqb-true, eq-eqb}
use Rattle.je_base.specs.declared.span.NameId.{NameId}
use Rattle.je_scopes.specs.Scope.{same_place}
use Rattle.je_scopes.specs.BinaryNames.{same_names}
use Rattle.binary_names.specs.Counts.{name_number}

-- Two tests are one, where each passes with the other.
pub same_test : (a b : Bool) → (a ≡ true → b ≡ true) → (b ≡ true → a ≡ true) → a ≡ b
same_test true b f g = sym (f refl)
same_test false true f g = absurd (let e : false ≡ true = g refl in cc)
same_test false false f g = refl

pub nat_eq-flip : (m n : ℕ) → nat_eq m n ≡ nat_eq n m
nat_eq-flip m n = same_test (nat_eq m n) (nat_eq n m) (λ e. eq-eqb n m (sym (eqb-true m n e))) (λ e. eq-eqb m n (sym (eqb-true n m e)))

pub place_flip : (a b : Option ℕ) → option_eq nat_eq a b ≡ same_place b a
place_flip None None = refl
place_flip None (Some n) = refl
place_flip (Some m) None = refl
place_flip (Some m) (Some n) = nat_eq-flip m n

pub names_flip : (a b : Option NameId) → option_eq nat_eq (name_number a) (name_number b) ≡ same_names b a
names_flip None None = refl
names_flip None (Some y) = refl
names_flip (Some x) None = refl
names_flip (Some x) (Some y) = nat_eq-flip x.0 y.0

pub option_eq-true : (a b : Option ℕ) → option_eq nat_eq a b ≡ true → a ≡ b
option_eq-true None None e = refl
option_eq-true None (Some n) e = absurd (cc)
option_eq-true (Some m) None e = absurd (cc)
option_eq-true (Some m) (Some n) e = ap Some (eqb-true m n e)

pub both : (a b : Bool) → (a && b) ≡ true → (a ≡ true) × (b ≡ true)
both true b e = (refl, e)
both false b e = absurd (cc)
