-- A test of each method of a program that asks for a class above one is a test of the methods of the classes above.
use Rattle.std.proofs.Common.{◌≡◌, ℕ, zero, suc, ◌+◌, ◌<◌, List, [], ◌∷◌, length, Some, refl, sym, ◌∙◌, subst, arith}
use Rattle.std.specs.Prelude.{Bool, true, false, ◌||◌, slice_get, nat_lt}
use Rattle.std.specs.List.{list_all}
use Rattle.std.proofs.lemmas.Bool.Decides.{nat_tests}
use Rattle.std.proofs.lemmas.Option.{none-some, same_Some}
use Rattle.je_core.specs.declared.types.ClassId.{ClassId}
use Rattle.je_core.specs.Core.{CoreMethod, CoreProgram}
use Rattle.je_classes.specs.Hierarchy.{class_at, same_class, is_below}
use Rattle.je_classes.specs.Members.{methods_of}
use Rattle.je_classes.specs.way.Reaching.{has}
use Rattle.je_classes.proofs.Below.{same_class-refl, same_class-equal}
use Rattle.je_classes.proofs.Lists.{bool_cases}
use Rattle.je_fitting.specs.way.DecidingMembers.{is_overridden, stands_for}
use Rattle.je_fitting.specs.way.Quantifying.{implies, each_method}
use Rattle.je_fitting.proofs.Booleans.{two, both}
use Rattle.je_fitting.proofs.Quantified.{class-within, each-tested, all-tested}
use Rattle.class_lookup.specs.Above.{AreAbove}
use Rattle.class_lookup.proofs.Above.{same-test}
use Rattle.fit_members.specs.way.Each.{tested_from, each_of, override_fits}

-- ---- the methods of one class

from-each : (test : ℕ → CoreMethod → Bool) (n : ℕ) (ks : List CoreMethod) → ((i : ℕ) (k : CoreMethod) → slice_get ks i ≡ Some k → test (n + i) k ≡ true) → tested_from test n ks ≡ true
from-each test n [] f = refl
from-each test n (k ∷ ks) f = both (let z : n + 0 ≡ n = omega arith in subst (λ i. test i k ≡ true) z (f 0 k refl))
    (from-each test (suc n) ks (λ i j e. let z : n + suc i ≡ suc n + i = omega arith in subst (λ x. test x j ≡ true) z (f (suc i) j e)))

to-each : (test : ℕ → CoreMethod → Bool) (n : ℕ) (ks : List CoreMethod) → tested_from test n ks ≡ true → (i : ℕ) (k : CoreMethod) → slice_get ks i ≡ Some k → test (n + i) k ≡ true
to-each test n [] h i k e = absurd (none-some k e)
to-each test n (x ∷ ks) h zero k e = let z : n ≡ n + 0 = omega arith in subst (λ i. test i k ≡ true) z (subst (λ (j : CoreMethod). test n j ≡ true) (same_Some x k e) (two {a = test n x} {b = tested_from test (suc n) ks} h).0)
to-each test n (x ∷ ks) h (suc i) k e = let z : suc n + i ≡ n + suc i = omega arith in subst (λ j. test j k ≡ true) z (to-each test (suc n) ks (two {a = test n x} {b = tested_from test (suc n) ks} h).1 i k e)

or-true : (a b : Bool) → b ≡ true → (a || b) ≡ true
or-true true b e = refl
or-true false b e = e

all-has : (test : ClassId → Bool) (ds : List ClassId) → ((d : ClassId) → has ds d ≡ true → test d ≡ true) → list_all test ds ≡ true
all-has test [] f = refl
all-has test (d ∷ ds) f = both (f d (rw (same_class-refl d) refl)) (all-has test ds (λ e h. f e (or-true (same_class e d) (has ds e) h)))

has-all : (test : ClassId → Bool) (ds : List ClassId) → list_all test ds ≡ true → (d : ClassId) → has ds d ≡ true → test d ≡ true
has-all test [] h d q = absurd cc
has-all test (x ∷ ds) h d q = bool_cases (λ b. same_class d x ≡ b → (b || has ds d) ≡ true → test d ≡ true) (same_class d x)
    (λ _ s _. subst (λ (z : ClassId). test z ≡ true) (sym (same_class-equal d x s)) (two {a = test x} {b = list_all test ds} h).0)
    (λ _ _ r. has-all test ds (two {a = test x} {b = list_all test ds} h).1 d r) refl q

module _ (p : CoreProgram) (class : ClassId) (ds : List ClassId) (a : AreAbove p class ds) (whole near : ClassId → ℕ → CoreMethod → Bool)
    (same : (d : ClassId) (n : ℕ) (k : CoreMethod) → is_below p class d ≡ true → whole d n k ≡ near d n k) (other : (d : ClassId) (n : ℕ) (k : CoreMethod) → is_below p class d ≡ false → whole d n k ≡ true) where
  is-above : (d : ClassId) → has ds d ≡ true → is_below p class d ≡ true
  is-above d h = (two {a = nat_lt d.0 (length p.classes)} {b = is_below p class d} (sym (a.each d) ∙ h)).1

  near-each : each_method p whole ≡ true → each_of p near ds ≡ true
  near-each h = all-has (λ d. tested_from (near d) 0 (methods_of p d)) ds
      (λ d q. from-each (near d) 0 (methods_of p d) (λ i k e. let z : i ≡ 0 + i = omega arith in subst (λ j. near d j k ≡ true) z (sym (same d i k (is-above d q)) ∙ each-tested p whole h d i k e)))

  whole-each : each_of p near ds ≡ true → each_method p whole ≡ true
  whole-each h = all-tested p whole (λ d n k q. bool_cases (λ b. is_below p class d ≡ b → whole d n k ≡ true) (is_below p class d)
      (λ _ e. let l : d.0 < length p.classes = class-within p d n k (class_at p d) refl q in
      let there : nat_lt d.0 (length p.classes) ≡ true = grind (arith, nat_tests) in
      let z : 0 + n ≡ n = omega arith in
      same d n k e ∙ subst (λ j. near d j k ≡ true) z (to-each (near d) 0 (methods_of p d) (has-all (λ c. tested_from (near c) 0 (methods_of p c)) ds h d (a.each d ∙ both there e)) n k q))
      (λ _ e. other d n k e) refl)

  pub each_above : each_of p near ds ≡ each_method p whole
  each_above = same-test (each_of p near ds) (each_method p whole) whole-each near-each

pub overriding : (p : CoreProgram) (class : ClassId) (ds : List ClassId) (m : CoreMethod) → AreAbove p class ds →
    each_of p (λ d n k. override_fits p m k) ds ≡ each_method p (λ above at k. implies (is_overridden p class m above k) (stands_for p m k))
overriding p class ds m a = each_above p class ds a (λ above at k. implies (is_overridden p class m above k) (stands_for p m k)) (λ d n k. override_fits p m k)
    (λ d n k e. rw e refl) (λ d n k e. rw e refl)
