-- A set of candidates has one choice.
use Rattle.std.proofs.Common.{◌≡◌, refl, sym, ap, ◌∙◌, arith}
use Rattle.std.specs.Prelude.{true, false}
use Rattle.std.proofs.lemmas.Bool.Decides.{nat_tests}
use Rattle.je_core.specs.Core.{CoreProgram}
use Rattle.je_classes.specs.Members.{Member, Found, one}
use Rattle.je_classes.specs.Methods.{IsBest, Counts, IsChosen, none_fits, none_best, the_concrete, more_concrete, the_first, none_counts, stands_before, is_concrete, MethodsAreFound}
use Rattle.class_laws.specs.Answers.{MethodsGoBySets}

-- two members of which neither stands before the other are one
neither-before : (m n : Member) → stands_before m n ≡ false → stands_before n m ≡ false → m ≡ n
neither-before m n e h = grind (arith, nat_tests)

-- a method isn't both abstract and not
concrete-once : (p : CoreProgram) {Z : Type 0} (m : Member) → is_concrete p m ≡ true → is_concrete p m ≡ false → Z
concrete-once p m e h = absurd (let g : true ≡ false = sym e ∙ h in cc)

module _ (p : CoreProgram) {P : Member → Type 0} where
  chosen-one : {f g : Found} → IsChosen p P (IsBest p P) f → IsChosen p P (IsBest p P) g → f ≡ g
  chosen-one (none_fits n) (none_fits k) = refl
  chosen-one (none_fits n) (none_best {m = m} q nb) = absurd (n m q)
  chosen-one (none_fits n) (the_concrete {m = m} b c u) = absurd (n m b.candidate)
  chosen-one (none_fits n) (more_concrete {m = m} b c b' c' d) = absurd (n m b.candidate)
  chosen-one (none_fits n) (the_first {m = m} all k least) = absurd (n m k.best.candidate)
  chosen-one (none_fits n) (none_counts {m = m} b all nc) = absurd (n m b.candidate)
  chosen-one (none_best {m = m} q nb) (none_fits n) = absurd (n m q)
  chosen-one (none_best q nb) (none_best r nc) = refl
  chosen-one (none_best q nb) (the_concrete {m = m} b c u) = absurd (nb m b)
  chosen-one (none_best q nb) (more_concrete b c b' c' d) = refl
  chosen-one (none_best q nb) (the_first {m = m} all k least) = absurd (nb m k.best)
  chosen-one (none_best q nb) (none_counts b all nc) = refl
  chosen-one (the_concrete {m = m} b c u) (none_fits n) = absurd (n m b.candidate)
  chosen-one (the_concrete {m = m} b c u) (none_best q nb) = absurd (nb m b)
  chosen-one (the_concrete {m = m} b c u) (the_concrete b' c' v) = ap one (v m b c)
  chosen-one (the_concrete b c u) (more_concrete {m = m} {n = n} q e r h d) = absurd (d (u m q e ∙ sym (u n r h)))
  chosen-one (the_concrete {m = m} b c u) (the_first all k least) = concrete-once p m c (all m b)
  chosen-one (the_concrete {m = m} b c u) (none_counts q all nc) = concrete-once p m c (all m b)
  chosen-one (more_concrete {m = m} b c b' c' d) (none_fits n) = absurd (n m b.candidate)
  chosen-one (more_concrete b c b' c' d) (none_best q nb) = refl
  chosen-one (more_concrete {m = m} {n = n} q e r h d) (the_concrete b c u) = absurd (d (u m q e ∙ sym (u n r h)))
  chosen-one (more_concrete b c b' c' d) (more_concrete q e r h k) = refl
  chosen-one (more_concrete {m = m} b c b' c' d) (the_first all k least) = concrete-once p m c (all m b)
  chosen-one (more_concrete b c b' c' d) (none_counts q all nc) = refl
  chosen-one (the_first {m = m} all k least) (none_fits n) = absurd (n m k.best.candidate)
  chosen-one (the_first {m = m} all k least) (none_best q nb) = absurd (nb m k.best)
  chosen-one (the_first all k least) (the_concrete {m = m} b c u) = concrete-once p m c (all m b)
  chosen-one (the_first all k least) (more_concrete {m = m} b c b' c' d) = concrete-once p m c (all m b)
  chosen-one (the_first {m = m} all k least) (the_first {m = n} al h lowest) = ap one (neither-before m n (lowest m k) (least n h))
  chosen-one (the_first {m = m} all k least) (none_counts b al nc) = absurd (nc m k)
  chosen-one (none_counts {m = m} b all nc) (none_fits n) = absurd (n m b.candidate)
  chosen-one (none_counts b all nc) (none_best q nb) = refl
  chosen-one (none_counts b all nc) (the_concrete {m = m} q c u) = concrete-once p m c (all m q)
  chosen-one (none_counts b all nc) (more_concrete q c r h d) = refl
  chosen-one (none_counts b all nc) (the_first {m = m} al k least) = absurd (nc m k)
  chosen-one (none_counts b all nc) (none_counts q al nd) = refl

-- ---- the same set has the same choice

module _ (p : CoreProgram) {P Q : Member → Type 0} (there : (m : Member) → P m → Q m) (back : (m : Member) → Q m → P m) where
  best-there : (m : Member) → IsBest p P m → IsBest p Q m
  best-there m b = record { candidate = there m b.candidate; specific = λ n q. b.specific n (back n q) }

  best-back : (m : Member) → IsBest p Q m → IsBest p P m
  best-back m b = record { candidate = back m b.candidate; specific = λ n q. b.specific n (there n q) }

  counts-there : (m : Member) → Counts p (IsBest p P) m → Counts p (IsBest p Q) m
  counts-there m k = record { best = best-there m k.best; result = λ n b. k.result n (best-back n b) }

  counts-back : (m : Member) → Counts p (IsBest p Q) m → Counts p (IsBest p P) m
  counts-back m k = record { best = best-back m k.best; result = λ n b. k.result n (best-there n b) }

  chosen-same : {f : Found} → IsChosen p P (IsBest p P) f → IsChosen p Q (IsBest p Q) f
  chosen-same (none_fits n) = none_fits (λ m q. n m (back m q))
  chosen-same (none_best {m = m} q nb) = none_best (there m q) (λ n b. nb n (best-back n b))
  chosen-same (the_concrete {m = m} b c u) = the_concrete (best-there m b) c (λ n q. u n (best-back n q))
  chosen-same (more_concrete {m = m} {n = n} b c q e d) = more_concrete (best-there m b) c (best-there n q) e d
  chosen-same (the_first {m = m} all k least) = the_first (λ n b. all n (best-back n b)) (counts-there m k) (λ n h. least n (counts-back n h))
  chosen-same (none_counts {m = m} b all nc) = none_counts (best-there m b) (λ n q. all n (best-back n q)) (λ n h. nc n (counts-back n h))

pub methods_go_by_sets : MethodsAreFound → MethodsGoBySets
methods_go_by_sets found p acyclic c d x y ss ts alike =
    chosen-one p (chosen-same p (λ m. (alike m).0) (λ m. (alike m).1) (found p c x ss acyclic)) (found p d y ts acyclic)
