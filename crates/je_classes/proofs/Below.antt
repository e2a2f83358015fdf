-- The function on a bounded number of steps and the closure.
use Rattle.std.proofs.Common.{◌≡◌, ℕ, zero, suc, length, refl, subst, arith}
use Rattle.std.specs.Prelude.{Bool, true, false, ◌||◌}
use Rattle.std.specs.List.{list_any}
use Rattle.std.proofs.lemmas.Bool.Decides.{nat_tests}
use Rattle.je_core.specs.declared.types.ClassId.{ClassId}
use Rattle.je_core.specs.Core.{CoreProgram}
use Rattle.je_classes.specs.Hierarchy.{supers_of, same_class, below_within, is_below, Below, same, above}
use Rattle.je_classes.specs.Laws.{BelowIsDecided}
use Rattle.je_classes.proofs.Lists.{bool_cases, contains-any}
use Rattle.je_classes.proofs.Paths.{below-within}

pub same_class-refl : (c : ClassId) → same_class c c ≡ true
same_class-refl c = grind (arith, nat_tests)

pub same_class-equal : (c d : ClassId) → same_class c d ≡ true → c ≡ d
same_class-equal c d e = grind (arith, nat_tests)

reached : (s : CoreProgram) (c d : ClassId) → same_class c d ≡ true → Below s c d
reached s c d e = subst (Below s c) (same_class-equal c d e) same

below-sound : (s : CoreProgram) (n : ℕ) (c d : ClassId) → below_within s n c d ≡ true → Below s c d
below-sound s zero c d e = reached s c d e
below-sound s (suc n) c d e = bool_cases (λ b. (b || list_any (λ k. below_within s n k d) (supers_of s c)) ≡ true → Below s c d) (same_class c d)
    (λ q h. reached s c d q)
    (λ q h. let p = contains-any (λ k. below_within s n k d) (supers_of s c) h in above p.there (below-sound s n p.element d p.passes)) e

pub or_true : (b c : Bool) → c ≡ true → (b || c) ≡ true
or_true true c e = refl
or_true false c e = e

below-same : (s : CoreProgram) (n : ℕ) (c : ClassId) → below_within s n c c ≡ true
below-same s zero c = same_class-refl c
below-same s (suc n) c = rw (same_class-refl c) refl

pub below-to : (s : CoreProgram) (c d : ClassId) → is_below s c d ≡ true → Below s c d
unfolding is_below
below-to s c d e = below-sound s (length s.classes) c d e

pub below-from : (s : CoreProgram) {c d : ClassId} → Below s c d → is_below s c d ≡ true
unfolding is_below
below-from s {c = c} {d = d} r = below-within s c d r

pub below-itself : (s : CoreProgram) (c : ClassId) → is_below s c c ≡ true
unfolding is_below
below-itself s c = below-same s (length s.classes) c

pub below_decided : BelowIsDecided
below_decided s c d = (below-to s c d, λ r. below-from s r)
