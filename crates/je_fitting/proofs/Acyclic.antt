-- In a program that fits no class is above itself: how many classes are above one falls with each super.
use Rattle.std.proofs.Common.{◌≡◌, ℕ, ◌<◌, List, [], ◌∷◌, length, get_or, Some, None, refl, sym, subst, arith}
use Rattle.std.specs.Prelude.{Bool, true, false, not, ◌&&◌, Option, is_some, slice_get, nat_eq}
use Rattle.std.specs.List.{All, Contains}
use Rattle.std.proofs.lemmas.Bool.Decides.{nat_tests}
use Rattle.std.proofs.lemmas.List.Elements.{All-nil, All-cons, All-head, All-tail}
use Rattle.std.proofs.lemmas.Option.{slice_get_within, slice_get-get_or}
use Rattle.je_core.specs.declared.types.ClassId.{ClassId}
use Rattle.je_core.specs.Core.{CoreClass, CoreProgram}
use Rattle.je_classes.specs.Hierarchy.{class_at, with_superclass, supers_in, supers_of, is_below, Below, same, above, IsAcyclic}
use Rattle.je_classes.proofs.Lists.{bool_cases}
use Rattle.je_classes.proofs.Counts.{counted, counted-lt, counted-within}
use Rattle.je_classes.proofs.Below.{below-to, below-from, below-itself}
use Rattle.je_fitting.specs.Classes.{can_be_extended, is_interface, SuperclassFits, none_above, one_above, ClassFits}
use Rattle.je_fitting.specs.Program.{itself, is_itself, FitsProgram}
use Rattle.je_fitting.proofs.Booleans.{two, both, is_false}
use Rattle.je_fitting.proofs.ClassesDecided.{itself_of, at-place}

-- ---- elements

contained : {A : Type 0} (P : A → Type 0) (xs : List A) (x : A) → All P xs → Contains xs x → P x
contained P xs x a q = let g : slice_get xs q.0 ≡ Some (get_or xs q.0 x) = slice_get-get_or xs q.0 x q.1 in subst P q.2 (at-place P xs q.0 (get_or xs q.0 x) a g)

module _ (p : CoreProgram) (f : FitsProgram p) where
  itself-fits : (c : ClassId) (k : CoreClass) → class_at p c ≡ Some k → ClassFits p c k
  itself-fits c k there = itself_of p c k ((f c k there).parts itself is_itself)

  record Known (c : ClassId) : Type 0 where
    k : CoreClass
    there : class_at p c ≡ Some k

  known-by : (c s : ClassId) (o : Option CoreClass) → class_at p c ≡ o → Contains (supers_in o) s → Known c
  known-by c s None q h = absurd (let g : h.0 < 0 = h.1 in omega arith)
  known-by c s (Some k) q h = record { k = k; there = q }

  -- a class that names a super is there
  known : (c s : ClassId) → Contains (supers_of p c) s → Known c
  known c s q = known-by c s (class_at p c) refl q

  not-above : (c s : ClassId) → Contains (supers_of p c) s → is_below p s c ≡ false
  not-above c s q = let k = known c s q in contained (λ s. is_below p s c ≡ false) (supers_of p c) s (itself-fits c k.k k.there).not_above_itself q

  extended-there : (o : Option CoreClass) → can_be_extended o ≡ true → is_some o ≡ true
  extended-there None e = absurd cc
  extended-there (Some k) e = refl

  interface-there : (o : Option CoreClass) → is_interface o ≡ true → is_some o ≡ true
  interface-there None e = absurd cc
  interface-there (Some k) e = refl

  interfaces-there : (is : List ClassId) → All (λ i. is_interface (class_at p i) ≡ true) is → All (λ s. is_some (class_at p s) ≡ true) is
  interfaces-there [] a = All-nil (λ s. is_some (class_at p s) ≡ true)
  interfaces-there (i ∷ is) a = All-cons (λ s. is_some (class_at p s) ≡ true) i is (interface-there (class_at p i) (All-head (λ i. is_interface (class_at p i) ≡ true) i is a))
      (interfaces-there is (All-tail (λ i. is_interface (class_at p i) ≡ true) i is a))

  supers-there : (c : ClassId) (k : CoreClass) (s : Option ClassId) (is : List ClassId) → SuperclassFits p c k s → All (λ i. is_interface (class_at p i) ≡ true) is → All (λ s. is_some (class_at p s) ≡ true) (with_superclass s is)
  supers-there c k _ is (none_above e) a = interfaces-there is a
  supers-there c k _ is (one_above {s = s} e g) a = All-cons (λ s. is_some (class_at p s) ≡ true) s is (extended-there (class_at p s) g) (interfaces-there is a)

  super-there : (c s : ClassId) → Contains (supers_of p c) s → is_some (class_at p s) ≡ true
  super-there c s q = let k = known c s q in let fits = itself-fits c k.k k.there in
      contained (λ s. is_some (class_at p s) ≡ true) (with_superclass k.k.superclass k.k.interfaces) s (supers-there c k.k k.k.superclass k.k.interfaces fits.superclass fits.interfaces)
      (subst (λ (o : Option CoreClass). Contains (supers_in o) s) k.there q)

  within-by : (c : ClassId) (o : Option CoreClass) → class_at p c ≡ o → is_some o ≡ true → c.0 < length p.classes
  within-by c None q e = absurd cc
  within-by c (Some k) q e = slice_get_within p.classes c.0 k q

  -- ---- the depth

  abbrev is_over : ClassId → ℕ → Bool
  is_over c d = is_below p c (record { 0 = d }) && not (nat_eq c.0 d)

  depth : ClassId → ℕ
  depth c = counted (is_over c) (length p.classes)

  over-more : (c s : ClassId) → Contains (supers_of p c) s → (d : ℕ) → is_over s d ≡ true → is_over c d ≡ true
  over-more c s q d e = let r = two {a = is_below p s (record { 0 = d })} {b = not (nat_eq s.0 d)} e in
      both (below-from p (above q (below-to p s (record { 0 = d }) r.0)))
      (bool_cases (λ k. nat_eq c.0 d ≡ k → not k ≡ true) (nat_eq c.0 d)
      (λ _ h. absurd (let z : d ≡ c.0 = grind (arith, nat_tests) in let x : is_below p s c ≡ true = subst (λ n. is_below p s (record { 0 = n }) ≡ true) z r.0 in let y : is_below p s c ≡ false = not-above c s q in cc))
      (λ _ h. refl) refl)

  over-super : (c s : ClassId) → Contains (supers_of p c) s → is_over c s.0 ≡ true
  over-super c s q = both (below-from p (above q same))
      (bool_cases (λ k. nat_eq c.0 s.0 ≡ k → not k ≡ true) (nat_eq c.0 s.0)
      (λ _ h. absurd (let z : c ≡ s = grind (arith, nat_tests) in let x : is_below p s c ≡ true = subst (λ (k : ClassId). is_below p s k ≡ true) (sym z) (below-itself p s) in let y : is_below p s c ≡ false = not-above c s q in cc))
      (λ _ h. refl) refl)

  not-over-itself : (c : ClassId) → is_over c c.0 ≡ false
  not-over-itself c = let e : nat_eq c.0 c.0 ≡ true = grind (arith, nat_tests) in by (is_below p c c) (nat_eq c.0 c.0) e
    where
      by : (a b : Bool) → b ≡ true → (a && not b) ≡ false
      by true true e = refl
      by false b e = refl
      by true false e = absurd cc

  depth-falls : (c s : ClassId) → Contains (supers_of p c) s → depth s < depth c
  unfolding depth
  depth-falls c s q = counted-lt (is_over s) (is_over c) (length p.classes) (λ d lt e. over-more c s q d e) s.0
      (within-by s (class_at p s) refl (super-there c s q)) (not-over-itself s) (over-super c s q)

  nothing-over : (c : ClassId) → class_at p c ≡ None → (d : ℕ) → is_over c d ≡ false
  nothing-over c none d = bool_cases (λ k. is_over c d ≡ k → k ≡ false) (is_over c d)
      (λ _ e. absurd (let r = two {a = is_below p c (record { 0 = d })} {b = not (nat_eq c.0 d)} e in
      let z : c.0 ≡ d = only (record { 0 = d }) (below-to p c (record { 0 = d }) r.0) in let x : nat_eq c.0 d ≡ true = grind (arith, nat_tests) in let y : nat_eq c.0 d ≡ false = is_false r.1 in cc))
      (λ _ e. refl) refl
    where
      only : (e : ClassId) → Below p c e → c.0 ≡ e.0
      only e same = refl
      only e (above {e = k} q r) = absurd (let g : Contains (supers_in None) k = subst (λ (o : Option CoreClass). Contains (supers_in o) k) none q in let h : g.0 < 0 = g.1 in omega arith)

  depth-within : 0 < length p.classes → (c : ClassId) (o : Option CoreClass) → class_at p c ≡ o → depth c < length p.classes
  unfolding depth
  depth-within some c None q = counted-within (is_over c) (length p.classes) 0 some (nothing-over c q 0)
  depth-within some c (Some k) q = counted-within (is_over c) (length p.classes) c.0 (slice_get_within p.classes c.0 k q) (not-over-itself c)

  pub acyclic : 0 < length p.classes → IsAcyclic p
  acyclic some = record { depth = depth; falls = depth-falls; within = λ c. depth-within some c (class_at p c) refl }
