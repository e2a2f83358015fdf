-- The first part whose test fails is the first misfit, and there is one.
use Rattle.std.proofs.Common.{◌≡◌, ℕ, zero, suc, ◌<◌, List, [], ◌∷◌, length, Some, None, refl, sym, ap, ◌∙◌, subst, inl, inr, arith}
use Rattle.std.specs.Prelude.{Bool, true, false, ◌⊎◌, Option, slice_get, nat_lt, if◌then◌else◌}
use Rattle.std.specs.List.{list_all}
use Rattle.std.proofs.lemmas.Bool.Decides.{nat_tests}
use Rattle.std.proofs.lemmas.Option.{slice_get_within}
use Rattle.je_core.specs.declared.types.ClassId.{ClassId}
use Rattle.je_core.specs.Core.{CoreField, CoreMethod, CoreClass, CoreProgram}
use Rattle.je_classes.specs.Hierarchy.{class_at}
use Rattle.je_classes.proofs.Lists.{bool_cases}
use Rattle.je_fitting.specs.Program.{Part, itself, a_field, a_method, PartFits, itself_fits, field_fits, method_fits, IsPart, is_itself, is_field, is_method, FitsWhole, FitsProgram, StandsBefore, before_field, before_method, field_by_place, field_before_method, method_by_place, IsFirstMisfit}
use Rattle.je_fitting.specs.way.DecidingMembers.{is_field_fit, is_method_fit}
use Rattle.je_fitting.specs.way.DecidingClasses.{is_class_fit, is_whole_fit}
use Rattle.je_fitting.specs.way.Misfits.{earlier_or, least_failing, as_method, as_field_or, class_passes, field_passes, method_passes, first_part, in_class, part_of, misfit_in, first_misfit}
use Rattle.je_fitting.specs.way.Quantifying.{if_there}
use Rattle.je_fitting.proofs.Booleans.{both}
use Rattle.je_fitting.proofs.Quantified.{on-there, places-pass}
use Rattle.je_fitting.proofs.MembersDecided.{field_sound, field_complete, method_sound, method_complete}
use Rattle.je_fitting.proofs.ClassesDecided.{class_sound, class_complete, program_sound, part_sound, itself_of, field_of, method_of}

-- ---- the least number for which a test fails

data IsLeast (test : ℕ → Bool) (n : ℕ) : Option ℕ → Type 0 where
  all_pass : ((i : ℕ) → i < n → test i ≡ true) → IsLeast test n None
  fails : {i : ℕ} → i < n → test i ≡ false → ((j : ℕ) → j < i → test j ≡ true) → IsLeast test n (Some i)

pass-more : (test : ℕ → Bool) (n : ℕ) → ((i : ℕ) → i < n → test i ≡ true) → test n ≡ true → (i : ℕ) → i < suc n → test i ≡ true
pass-more test n f e i lt = bool_cases (λ k. nat_lt i n ≡ k → test i ≡ true) (nat_lt i n)
    (λ _ h. f i (grind (arith, nat_tests)))
    (λ _ h. let s : n ≡ i = (let g : ¬ i < n = grind (arith, nat_tests) in omega (arith, g)) in subst (λ j. test j ≡ true) s e) refl

one-more : (test : ℕ → Bool) (n : ℕ) (o : Option ℕ) → IsLeast test n o → IsLeast test (suc n) (earlier_or o (if test n then None else Some n))
one-more test n _ (all_pass f) = bool_cases (λ k. test n ≡ k → IsLeast test (suc n) (if k then None else Some n)) (test n)
    (λ _ h. all_pass (pass-more test n f h))
    (λ _ h. fails (omega arith) h f) refl
one-more test n _ (fails lt e f) = fails (omega arith) e f

least : (test : ℕ → Bool) (n : ℕ) → IsLeast test n (least_failing test n)
least test zero = all_pass (λ i lt. absurd (omega arith))
least test (suc n) = one-more test n (least_failing test n) (least test n)

-- ---- what a test that fails says

record Failing {A : Type 0} (test : A → Bool) (o : Option A) : Type 0 where
  x : A
  there : o ≡ Some x
  failing : test x ≡ false

failing-there : {A : Type 0} (test : A → Bool) (o : Option A) → if_there test o ≡ false → Failing test o
failing-there test None e = absurd cc
failing-there test (Some x) e = record { x = x; there = refl; failing = e }

list-passes : {A : Type 0} (test : A → Bool) (xs : List A) → ((i : ℕ) (x : A) → slice_get xs i ≡ Some x → test x ≡ true) → list_all test xs ≡ true
list-passes test [] f = refl
list-passes test (x ∷ xs) f = both (f 0 x refl) (list-passes test xs (λ i y e. f (suc i) y e))

contradict : {b : Bool} → b ≡ true → b ≡ false → ⊥
contradict {b = true} e f = cc
contradict {b = false} e f = cc

module _ (p : CoreProgram) where
  class-is : (class : ClassId) (c d : CoreClass) → class_at p class ≡ Some c → class_at p class ≡ Some d → c ≡ d
  class-is class c d e f = cc

  -- ---- of a class

  record IsFirstPart (class : ClassId) (c : CoreClass) (part : Part) : Type 0 where
    is_part : IsPart c part
    misfit : ¬ PartFits p class c part
    before : (other : Part) → IsPart c other → StandsBefore other part → PartFits p class c other

  data FirstOf (class : ClassId) (c : CoreClass) : Option Part → Type 0 where
    nothing_first : is_whole_fit p class c ≡ true → FirstOf class c None
    part_first : {part : Part} → IsFirstPart class c part → FirstOf class c (Some part)

  field-passed : (class : ClassId) (c : CoreClass) (n : ℕ) (f : CoreField) → slice_get c.fields n ≡ Some f → field_passes p class c n ≡ true → PartFits p class c (a_field n)
  field-passed class c n f there e = field_fits there (field_sound p class f (on-there (is_field_fit p class) (slice_get c.fields n) e f there))

  method-passed : (class : ClassId) (c : CoreClass) (n : ℕ) (m : CoreMethod) → slice_get c.methods n ≡ Some m → method_passes p class c n ≡ true → PartFits p class c (a_method n)
  method-passed class c n m there e = method_fits there (method_sound p class c m (on-there (is_method_fit p class c) (slice_get c.methods n) e m there))

  nothing-before : {other part : Part} → StandsBefore other part → ¬ part ≡ itself
  nothing-before before_field e = cc
  nothing-before before_method e = cc
  nothing-before (field_by_place lt) e = cc
  nothing-before field_before_method e = cc
  nothing-before (method_by_place lt) e = cc

  itself-first : (class : ClassId) (c : CoreClass) → is_class_fit p class c ≡ false → IsFirstPart class c itself
  itself-first class c e = record {
    is_part = is_itself;
    misfit = λ k. contradict (class_complete p class c (itself_of p class c k)) e;
    before = λ other q b. absurd (nothing-before b refl);
  }

  before-a-field : (class : ClassId) (c : CoreClass) (i : ℕ) → is_class_fit p class c ≡ true → ((j : ℕ) → j < i → field_passes p class c j ≡ true) →
      (other part : Part) → part ≡ a_field i → IsPart c other → StandsBefore other part → PartFits p class c other
  before-a-field class c i e f _ _ q is_itself b = itself_fits (class_sound p class c e)
  before-a-field class c i e f _ _ q (is_field {at = j} {f = x} there) (field_by_place {n = n} lt) = let r : n ≡ i = cc in field-passed class c j x there (f j (subst (λ k. j < k) r lt))
  before-a-field class c i e f _ _ q (is_field there) field_before_method = absurd cc
  before-a-field class c i e f _ _ q (is_method there) (method_by_place lt) = absurd cc

  field-first : (class : ClassId) (c : CoreClass) (i : ℕ) → is_class_fit p class c ≡ true → field_passes p class c i ≡ false → ((j : ℕ) → j < i → field_passes p class c j ≡ true) → IsFirstPart class c (a_field i)
  field-first class c i e g f = let k = failing-there (is_field_fit p class) (slice_get c.fields i) g in record {
    is_part = is_field k.there;
    misfit = λ q. contradict (field_complete p class k.x (field_of p class c i k.x k.there q)) k.failing;
    before = λ other q b. before-a-field class c i e f other (a_field i) refl q b;
  }

  before-a-method : (class : ClassId) (c : CoreClass) (i : ℕ) → is_class_fit p class c ≡ true → ((j : ℕ) → j < length c.fields → field_passes p class c j ≡ true) → ((j : ℕ) → j < i → method_passes p class c j ≡ true) →
      (other part : Part) → part ≡ a_method i → IsPart c other → StandsBefore other part → PartFits p class c other
  before-a-method class c i e f g _ _ q is_itself b = itself_fits (class_sound p class c e)
  before-a-method class c i e f g _ _ q (is_field {at = j} {f = x} there) b = field-passed class c j x there (f j (slice_get_within c.fields j x there))
  before-a-method class c i e f g _ _ q (is_method {at = j} {m = x} there) (method_by_place {n = n} lt) = let r : n ≡ i = cc in method-passed class c j x there (g j (subst (λ k. j < k) r lt))

  method-first : (class : ClassId) (c : CoreClass) (i : ℕ) → is_class_fit p class c ≡ true → ((j : ℕ) → j < length c.fields → field_passes p class c j ≡ true) → method_passes p class c i ≡ false →
      ((j : ℕ) → j < i → method_passes p class c j ≡ true) → IsFirstPart class c (a_method i)
  method-first class c i e f h g = let k = failing-there (is_method_fit p class c) (slice_get c.methods i) h in record {
    is_part = is_method k.there;
    misfit = λ q. contradict (method_complete p class c k.x (method_of p class c i k.x k.there q)) k.failing;
    before = λ other q b. before-a-method class c i e f g other (a_method i) refl q b;
  }

  by-methods : (class : ClassId) (c : CoreClass) → is_class_fit p class c ≡ true → ((j : ℕ) → j < length c.fields → field_passes p class c j ≡ true) → (o : Option ℕ) → IsLeast (method_passes p class c) (length c.methods) o → FirstOf class c (as_method o)
  by-methods class c e f _ (fails {i = i} lt h g) = part_first (method-first class c i e f h g)
  by-methods class c e f _ (all_pass g) = nothing_first (both (both e
      (list-passes (is_field_fit p class) c.fields (λ i x there. on-there (is_field_fit p class) (slice_get c.fields i) (f i (slice_get_within c.fields i x there)) x there)))
      (list-passes (is_method_fit p class c) c.methods (λ i x there. on-there (is_method_fit p class c) (slice_get c.methods i) (g i (slice_get_within c.methods i x there)) x there)))

  by-fields : (class : ClassId) (c : CoreClass) → is_class_fit p class c ≡ true → (o : Option ℕ) → IsLeast (field_passes p class c) (length c.fields) o → FirstOf class c (as_field_or o (as_method (least_failing (method_passes p class c) (length c.methods))))
  by-fields class c e _ (fails {i = i} lt h g) = part_first (field-first class c i e h g)
  by-fields class c e _ (all_pass f) = by-methods class c e f (least_failing (method_passes p class c) (length c.methods)) (least (method_passes p class c) (length c.methods))

  of-class : (class : ClassId) (c : CoreClass) → FirstOf class c (first_part p class c)
  of-class class c = bool_cases (λ k. is_class_fit p class c ≡ k →
      FirstOf class c (if k then as_field_or (least_failing (field_passes p class c) (length c.fields)) (as_method (least_failing (method_passes p class c) (length c.methods))) else Some itself)) (is_class_fit p class c)
      (λ _ e. by-fields class c e (least_failing (field_passes p class c) (length c.fields)) (least (field_passes p class c) (length c.fields)))
      (λ _ e. part_first (itself-first class c e)) refl

  without : (class : ClassId) (c : CoreClass) (o : Option Part) → FirstOf class c o → o ≡ None → is_whole_fit p class c ≡ true
  without class c _ (nothing_first h) e = h
  without class c _ (part_first k) e = absurd cc

  with-part : (class : ClassId) (c : CoreClass) (part : Part) (o : Option Part) → FirstOf class c o → o ≡ Some part → is_whole_fit p class c ≡ false
  with-part class c part _ (nothing_first h) e = absurd cc
  with-part class c part _ (part_first {part = first} k) e = bool_cases (λ b. is_whole_fit p class c ≡ b → b ≡ false) (is_whole_fit p class c)
      (λ _ h. absurd (k.misfit (part_sound p class c h first k.is_part)))
      (λ _ h. refl) refl

  -- a class without a first part fits, and one with a first part doesn't
  pub whole_without : (class : ClassId) (c : CoreClass) → first_part p class c ≡ None → is_whole_fit p class c ≡ true
  whole_without class c e = without class c (first_part p class c) (of-class class c) e

  pub not_whole_with : (class : ClassId) (c : CoreClass) (part : Part) → first_part p class c ≡ Some part → is_whole_fit p class c ≡ false
  not_whole_with class c part e = with-part class c part (first_part p class c) (of-class class c) e

  -- ---- of the program

  pub data FirstMisfit : Option (ClassId × Part) → Type 0 where
    no_misfit : FitsProgram p → FirstMisfit None
    a_misfit : {class : ClassId} {part : Part} → IsFirstMisfit p class part → FirstMisfit (Some (class, part))

  whole : (class : ClassId) (c : CoreClass) → class_at p class ≡ Some c → class_passes p class.0 ≡ true → FitsWhole p class c
  whole class c there e = record { parts = part_sound p class c (on-there (is_whole_fit p class) (class_at p class) e c there) }

  in-a-class : (class : ClassId) (c : CoreClass) → class_at p class ≡ Some c → is_whole_fit p class c ≡ false → ((i : ℕ) → i < class.0 → class_passes p i ≡ true) → (o : Option Part) → FirstOf class c o → FirstMisfit (in_class class o)
  in-a-class class c there e f _ (nothing_first h) = absurd (contradict h e)
  in-a-class class c there e f _ (part_first k) = a_misfit (record {
    the_class = c;
    there = there;
    is_part = k.is_part;
    misfit = k.misfit;
    classes_before = λ d x lt there'. whole d x there' (f d.0 lt);
    parts_before = k.before;
  })

  by-class : (n : ℕ) → class_passes p n ≡ false → ((i : ℕ) → i < n → class_passes p i ≡ true) → FirstMisfit (part_of p (record { 0 = n }) (class_at p (record { 0 = n })))
  by-class n e f = let k = failing-there (is_whole_fit p (record { 0 = n })) (class_at p (record { 0 = n })) e in
      subst (λ (o : Option CoreClass). FirstMisfit (part_of p (record { 0 = n }) o)) (sym k.there)
      (in-a-class (record { 0 = n }) k.x k.there k.failing f (first_part p (record { 0 = n }) k.x) (of-class (record { 0 = n }) k.x))

  by-classes : (o : Option ℕ) → IsLeast (class_passes p) (length p.classes) o → FirstMisfit (misfit_in p o)
  by-classes _ (all_pass f) = no_misfit (program_sound p (places-pass (class_passes p) (length p.classes) f))
  by-classes _ (fails {i = n} lt e f) = by-class n e f

  pub first : FirstMisfit (first_misfit p)
  unfolding first_misfit
  first = by-classes (least_failing (class_passes p) (length p.classes)) (least (class_passes p) (length p.classes))

  pub none_misfit : (o : Option (ClassId × Part)) → FirstMisfit o → o ≡ None → FitsProgram p
  none_misfit _ (no_misfit f) e = f
  none_misfit _ (a_misfit k) e = absurd cc

  -- ---- there is one

  fits-part : (class : ClassId) (c : CoreClass) (part : Part) → FitsWhole p class c → IsPart c part → PartFits p class c part
  fits-part class c part f q = f.parts part q

  data Order (a b : Part) : Type 0 where
    same : a ≡ b → Order a b
    ahead : StandsBefore a b → Order a b
    behind : StandsBefore b a → Order a b

  by-number : (m n : ℕ) → (m < n) ⊎ ((m ≡ n) ⊎ (n < m))
  by-number m n = bool_cases (λ k. nat_lt m n ≡ k → (m < n) ⊎ ((m ≡ n) ⊎ (n < m))) (nat_lt m n)
      (λ _ h. inl (grind (arith, nat_tests)))
      (λ _ h. bool_cases (λ k. nat_lt n m ≡ k → (m < n) ⊎ ((m ≡ n) ⊎ (n < m))) (nat_lt n m)
      (λ _ g. inr (inr (grind (arith, nat_tests))))
      (λ _ g. inr (inl (let x : ¬ m < n = grind (arith, nat_tests) in let y : ¬ n < m = grind (arith, nat_tests) in omega (arith, x, y)))) refl) refl

  fields-order : (m n : ℕ) → (m < n) ⊎ ((m ≡ n) ⊎ (n < m)) → Order (a_field m) (a_field n)
  fields-order m n (inl q) = ahead (field_by_place q)
  fields-order m n (inr (inl q)) = same (ap (λ k. a_field k) q)
  fields-order m n (inr (inr q)) = behind (field_by_place q)

  methods-order : (m n : ℕ) → (m < n) ⊎ ((m ≡ n) ⊎ (n < m)) → Order (a_method m) (a_method n)
  methods-order m n (inl q) = ahead (method_by_place q)
  methods-order m n (inr (inl q)) = same (ap (λ k. a_method k) q)
  methods-order m n (inr (inr q)) = behind (method_by_place q)

  order : (a b : Part) → Order a b
  order itself itself = same refl
  order itself (a_field n) = ahead before_field
  order itself (a_method n) = ahead before_method
  order (a_field m) itself = behind before_field
  order (a_field m) (a_field n) = fields-order m n (by-number m n)
  order (a_field m) (a_method n) = ahead field_before_method
  order (a_method m) itself = behind before_method
  order (a_method m) (a_field n) = behind field_before_method
  order (a_method m) (a_method n) = methods-order m n (by-number m n)

  one-part : (class : ClassId) (a b : Part) → IsFirstMisfit p class a → IsFirstMisfit p class b → Order a b → a ≡ b
  one-part class a b k l (same q) = q
  one-part class a b k l (ahead q) = absurd (let s : k.the_class ≡ l.the_class = class-is class k.the_class l.the_class k.there l.there in
      k.misfit (subst (λ (c : CoreClass). PartFits p class c a) (sym s) (l.parts_before a (subst (λ (c : CoreClass). IsPart c a) s k.is_part) q)))
  one-part class a b k l (behind q) = absurd (let s : l.the_class ≡ k.the_class = class-is class l.the_class k.the_class l.there k.there in
      l.misfit (subst (λ (c : CoreClass). PartFits p class c b) (sym s) (k.parts_before b (subst (λ (c : CoreClass). IsPart c b) s l.is_part) q)))

  one-class : (c d : ClassId) (a b : Part) → IsFirstMisfit p c a → IsFirstMisfit p d b → (c.0 < d.0) ⊎ ((c.0 ≡ d.0) ⊎ (d.0 < c.0)) → (c ≡ d) × (a ≡ b)
  one-class c d a b k l (inl lt) = absurd (k.misfit (fits-part c k.the_class a (l.classes_before c k.the_class lt k.there) k.is_part))
  one-class c d a b k l (inr (inr lt)) = absurd (l.misfit (fits-part d l.the_class b (k.classes_before d l.the_class lt l.there) l.is_part))
  one-class c d a b k l (inr (inl q)) = let r : c ≡ d = ap (λ (n : ℕ). record { 0 = n }) q in
      let k' : IsFirstMisfit p d a = subst (λ (x : ClassId). IsFirstMisfit p x a) r k in
      (r, one-part d a b k' l (order a b))

  pub misfit_unique : (c d : ClassId) (a b : Part) → IsFirstMisfit p c a → IsFirstMisfit p d b → (c ≡ d) × (a ≡ b)
  misfit_unique c d a b k l = one-class c d a b k l (by-number c.0 d.0)

  pub some_misfit : (o : Option (ClassId × Part)) → FirstMisfit o → (c : ClassId) (a : Part) → o ≡ Some (c, a) → IsFirstMisfit p c a
  some_misfit _ (no_misfit f) c a e = absurd cc
  some_misfit _ (a_misfit {class = d} {part = b} k) c a e = let q : (d, b) ≡ (c, a) = cc in subst (λ (x : ClassId × Part). IsFirstMisfit p x.0 x.1) q k

  pub is_misfit : (o : Option (ClassId × Part)) → FirstMisfit o → (c : ClassId) (a : Part) → IsFirstMisfit p c a → o ≡ Some (c, a)
  is_misfit _ (no_misfit f) c a k = absurd (k.misfit (fits-part c k.the_class a (f c k.the_class k.there) k.is_part))
  is_misfit _ (a_misfit {class = d} {part = b} l) c a k = let q = misfit_unique d c b a l k in
      ap (λ (x : ClassId). Some (x, b)) q.0 ∙ ap (λ (x : Part). Some (c, x)) q.1
