-- Subtypes of the core program: references, in their order, of arrays, and whatever the constant strings of the program.
use Rattle.std.proofs.Common.{◌≡◌, ℕ, zero, suc, ◌+◌, ◌<◌, ◌≤◌, length, List, [], ◌∷◌, refl, sym, ap, ◌∙◌, subst, inl, inr, arith, min}
use Rattle.std.proofs.lemmas.Bool.Decides.{nat_tests}
use Rattle.std.specs.Prelude.{nat_eq, Bool, true, false, ◌&&◌, ◌||◌}
use Rattle.std.specs.List.{list_any, Contains}
use Rattle.je_core.specs.declared.types.Base.{Base}
use Rattle.je_core.specs.declared.types.Base.TheVariants as base
use Rattle.je_core.specs.declared.types.ClassId.{ClassId}
use Rattle.je_core.specs.declared.types.Ty.{Ty}
use Rattle.je_core.specs.Core.{CoreProgram}
use Rattle.je_classes.specs.Hierarchy.{Below, same, above, below_within, is_below, object_class, same_class, supers_of}
use Rattle.je_classes.specs.Subtypes.{are_below, are_components_below, is_base_below, is_null, is_object, is_reference, is_reference_base, is_reference_of, is_subtype, same_base, same_type}
use Rattle.je_classes.proofs.Below.{below-from, below-to, same_class-equal, same_class-refl}
use Rattle.je_classes.proofs.Same.{same_base-equal, same_type-equal}
use Rattle.class_laws.proofs.ClassOrder.{transitive}
use Rattle.je_fitting.specs.Types.{agrees, is_primitive}
use Rattle.je_fitting.proofs.Booleans.{two}
use Rattle.typing_laws.specs.Fitting.{with_texts}
use Rattle.typing_laws.proofs.Subtypes.{contains-none, either, or-left, or-right}
use Rattle.fitting_laws.specs.Sound.{SameOrBelow}

-- ---- constant strings

list-same : {A : Type 0} (f g : A → Bool) → ((x : A) → f x ≡ g x) → (xs : List A) → list_any f xs ≡ list_any g xs
list-same f g h [] = refl
list-same f g h (x ∷ xs) = ap (λ b. b || list_any f xs) (h x) ∙ ap (λ b. g x || b) (list-same f g h xs)

module _ (p : CoreProgram) (texts : List (List ℕ)) where
  below-within : (n : ℕ) (c d : ClassId) → below_within (with_texts p texts) n c d ≡ below_within p n c d
  below-within zero c d = refl
  below-within (suc n) c d = ap (λ b. same_class c d || b) (list-same (λ e. below_within (with_texts p texts) n e d) (λ e. below_within p n e d) (λ e. below-within n e d) (supers_of p c))

  below-texts : (c d : ClassId) → is_below (with_texts p texts) c d ≡ is_below p c d
  unfolding is_below
  below-texts c d = below-within (length p.classes) c d

  base-texts : (a b : Base) → is_base_below (with_texts p texts) a b ≡ is_base_below p a b
  base-texts (base.Class c) (base.Class d) = ap (λ x. same_class d object_class || x) (below-texts c d)
  base-texts base.Null (base.Class d) = refl
  base-texts base.Null base.Null = refl
  base-texts _ _ = refl

  components-texts : (a : Base) (m : ℕ) (b : Base) (n : ℕ) → are_components_below (with_texts p texts) a m b n ≡ are_components_below p a m b n
  components-texts a zero b zero = ap (λ x. x || same_base a b) (base-texts a b)
  components-texts a zero b (suc n) = refl
  components-texts a (suc m) b zero = refl
  components-texts a (suc m) b (suc n) = components-texts a m b n

  all-texts : (a : Base) (m : ℕ) (b : Base) (n : ℕ) → are_below (with_texts p texts) a m b n ≡ are_below p a m b n
  all-texts a zero b zero = base-texts a b
  all-texts a zero b (suc n) = refl
  all-texts a (suc m) b zero = refl
  all-texts a (suc m) b (suc n) = components-texts a m b n

  pub subtype-texts : (s t : Ty) → is_subtype (with_texts p texts) s t ≡ is_subtype p s t
  unfolding is_subtype
  subtype-texts s t = all-texts s.base s.dims t.base t.dims

  pub agrees-texts : (s t : Ty) → agrees (with_texts p texts) s t ≡ agrees p s t
  agrees-texts s t = ap (λ b. (is_primitive s && same_type s t) || b) (subtype-texts s t)

-- ---- bases

data BelowBase (p : CoreProgram) : Base → Base → Type 0 where
  of_classes : {c d : ClassId} → (same_class d object_class || is_below p c d) ≡ true → BelowBase p (base.Class c) (base.Class d)
  null_class : {d : ClassId} → BelowBase p base.Null (base.Class d)
  null_null : BelowBase p base.Null base.Null

of-base : (p : CoreProgram) (a b : Base) → is_base_below p a b ≡ true → BelowBase p a b
of-base p (base.Class c) (base.Class d) h = of_classes h
of-base p base.Null (base.Class d) h = null_class
of-base p base.Null base.Null h = null_null
of-base p base.Null base.Bool h = absurd cc
of-base p base.Null base.Byte h = absurd cc
of-base p base.Null base.Short h = absurd cc
of-base p base.Null base.Char h = absurd cc
of-base p base.Null base.Int h = absurd cc
of-base p base.Null base.Long h = absurd cc
of-base p base.Null base.Void h = absurd cc
of-base p (base.Class c) base.Bool h = absurd cc
of-base p (base.Class c) base.Byte h = absurd cc
of-base p (base.Class c) base.Short h = absurd cc
of-base p (base.Class c) base.Char h = absurd cc
of-base p (base.Class c) base.Int h = absurd cc
of-base p (base.Class c) base.Long h = absurd cc
of-base p (base.Class c) base.Null h = absurd cc
of-base p (base.Class c) base.Void h = absurd cc
of-base p base.Bool b h = absurd cc
of-base p base.Byte b h = absurd cc
of-base p base.Short b h = absurd cc
of-base p base.Char b h = absurd cc
of-base p base.Int b h = absurd cc
of-base p base.Long b h = absurd cc
of-base p base.Void b h = absurd cc

data NullBase : Base → Type 0 where
  null : NullBase base.Null

of-null : (a : Base) → is_null a ≡ true → NullBase a
of-null base.Null h = null
of-null base.Bool h = absurd cc
of-null base.Byte h = absurd cc
of-null base.Short h = absurd cc
of-null base.Char h = absurd cc
of-null base.Int h = absurd cc
of-null base.Long h = absurd cc
of-null base.Void h = absurd cc
of-null (base.Class c) h = absurd cc

data ObjectBase : Base → Type 0 where
  object : {c : ClassId} → same_class c object_class ≡ true → ObjectBase (base.Class c)

of-object : (a : Base) → is_object a ≡ true → ObjectBase a
of-object (base.Class c) h = object h
of-object base.Null h = absurd cc
of-object base.Bool h = absurd cc
of-object base.Byte h = absurd cc
of-object base.Short h = absurd cc
of-object base.Char h = absurd cc
of-object base.Int h = absurd cc
of-object base.Long h = absurd cc
of-object base.Void h = absurd cc

-- ---- references

base-references : {p : CoreProgram} {a b : Base} → BelowBase p a b → (is_reference_base a ≡ true) × (is_reference_base b ≡ true)
base-references (of_classes h) = (refl, refl)
base-references null_class = (refl, refl)
base-references null_null = (refl, refl)

null-reference : {a : Base} → NullBase a → is_reference_base a ≡ true
null-reference null = refl

object-reference : {a : Base} → ObjectBase a → is_reference_base a ≡ true
object-reference (object h) = refl

all-references : (p : CoreProgram) (a : Base) (m : ℕ) (b : Base) (n : ℕ) → are_below p a m b n ≡ true → (is_reference_of a m ≡ true) × (is_reference_of b n ≡ true)
all-references p a zero b zero h = base-references (of-base p a b h)
all-references p a zero b (suc n) h = (null-reference (of-null a h), refl)
all-references p a (suc m) b zero h = (refl, object-reference (of-object b h))
all-references p a (suc m) b (suc n) h = (refl, refl)

pub below-references : (p : CoreProgram) (s t : Ty) → is_subtype p s t ≡ true → (is_reference s ≡ true) × (is_reference t ≡ true)
unfolding is_subtype
below-references p s t h = all-references p s.base s.dims t.base t.dims h

no-primitive-base : (a : Base) (m : ℕ) → is_reference_of a m ≡ true → is_primitive (record { base = a; dims = m }) ≡ false
no-primitive-base a (suc m) h = let z : nat_eq (suc m) 0 ≡ false = grind (arith, nat_tests) in rw z refl
no-primitive-base (base.Class c) zero h = refl
no-primitive-base base.Null zero h = refl
no-primitive-base base.Bool zero h = absurd cc
no-primitive-base base.Byte zero h = absurd cc
no-primitive-base base.Short zero h = absurd cc
no-primitive-base base.Char zero h = absurd cc
no-primitive-base base.Int zero h = absurd cc
no-primitive-base base.Long zero h = absurd cc
no-primitive-base base.Void zero h = absurd cc

no-primitive : (p : CoreProgram) (t u : Ty) → is_subtype p t u ≡ true → is_primitive t ≡ true → ⊥
no-primitive p t u h k = let none : true ≡ false = sym k ∙ no-primitive-base t.base t.dims (below-references p t u h).0 in absurd cc

-- ---- in their order (JLS 4.10)

module _ (p : CoreProgram) (top : supers_of p object_class ≡ []) where
  top-alone : {c d : ClassId} → Below p c d → c ≡ object_class → d ≡ object_class
  top-alone same e = e
  top-alone (above {e = k} q r) e = absurd (contains-none k (subst (λ (ks : List ClassId). Contains ks k) (ap (supers_of p) e ∙ top) q))

  above-top : (d : ClassId) → d ≡ object_class → same_class d object_class ≡ true
  above-top d e = subst (λ (x : ClassId). same_class x object_class ≡ true) (sym e) (same_class-refl object_class)

  classes-below : (c d e : ClassId) → (same_class d object_class || is_below p c d) ≡ true → (same_class e object_class || is_below p d e) ≡ true → (same_class e object_class || is_below p c e) ≡ true
  classes-below c d e h k = either _ (same_class e object_class) (is_below p d e) k
      (λ x. or-left (same_class e object_class) _ x)
      (λ x. either _ (same_class d object_class) (is_below p c d) h
      (λ y. or-left (same_class e object_class) _ (above-top e (top-alone (below-to p d e x) (same_class-equal d object_class y))))
      (λ y. or-right (same_class e object_class) _ (below-from p (transitive p c d e (below-to p c d y) (below-to p d e x)))))

  bases-below : {a b c : Base} → BelowBase p a b → BelowBase p b c → is_base_below p a c ≡ true
  bases-below (of_classes {c = c} {d = d} h) (of_classes {d = e} k) = classes-below c d e h k
  bases-below null_class (of_classes k) = refl
  bases-below null_null null_class = refl
  bases-below null_null null_null = refl

  below-null : {a b : Base} → BelowBase p a b → NullBase b → is_null a ≡ true
  below-null null_null null = refl
  below-null (of_classes h) q = elim q [ ]
  below-null null_class q = elim q [ ]

  above-object : {a b : Base} → BelowBase p a b → ObjectBase a → is_object b ≡ true
  above-object (of_classes {c = c} {d = d} h) (object e) = either _ (same_class d object_class) (is_below p c d) h (λ x. x)
      (λ x. above-top d (top-alone (below-to p c d x) (same_class-equal c object_class e)))
  above-object null_class q = elim q [ ]
  above-object null_null q = elim q [ ]

  null-below : {a b : Base} → NullBase a → ObjectBase b → is_base_below p a b ≡ true
  null-below null (object h) = refl

  no-object : {A : Type 0} {a : Base} → NullBase a → ObjectBase a → A
  no-object null q = elim q [ ]

  components : (a : Base) (m : ℕ) (b : Base) (n : ℕ) (c : Base) (k : ℕ) → are_components_below p a m b n ≡ true → are_components_below p b n c k ≡ true → are_components_below p a m c k ≡ true
  components a zero b zero c zero h g = either _ (is_base_below p a b) (same_base a b) h
      (λ x. either _ (is_base_below p b c) (same_base b c) g
      (λ y. or-left _ _ (bases-below (of-base p a b x) (of-base p b c y)))
      (λ y. or-left _ _ (subst (λ (z : Base). is_base_below p a z ≡ true) (same_base-equal b c y) x)))
      (λ x. subst (λ (z : Base). (is_base_below p z c || same_base z c) ≡ true) (sym (same_base-equal a b x)) g)
  components a zero b zero c (suc k) h g = either _ (is_base_below p a b) (same_base a b) h
      (λ x. below-null (of-base p a b x) (of-null b g))
      (λ x. subst (λ (z : Base). is_null z ≡ true) (sym (same_base-equal a b x)) g)
  components a zero b (suc n) c zero h g = or-left _ _ (null-below (of-null a h) (of-object c g))
  components a zero b (suc n) c (suc k) h g = h
  components a (suc m) b zero c zero h g = either _ (is_base_below p b c) (same_base b c) g
      (λ x. above-object (of-base p b c x) (of-object b h))
      (λ x. subst (λ (z : Base). is_object z ≡ true) (same_base-equal b c x) h)
  components a (suc m) b zero c (suc k) h g = no-object (of-null b g) (of-object b h)
  components a (suc m) b (suc n) c zero h g = g
  components a (suc m) b (suc n) c (suc k) h g = components a m b n c k h g

  all-below : (a : Base) (m : ℕ) (b : Base) (n : ℕ) (c : Base) (k : ℕ) → are_below p a m b n ≡ true → are_below p b n c k ≡ true → are_below p a m c k ≡ true
  all-below a zero b zero c zero h g = bases-below (of-base p a b h) (of-base p b c g)
  all-below a zero b zero c (suc k) h g = below-null (of-base p a b h) (of-null b g)
  all-below a zero b (suc n) c zero h g = null-below (of-null a h) (of-object c g)
  all-below a zero b (suc n) c (suc k) h g = h
  all-below a (suc m) b zero c zero h g = above-object (of-base p b c g) (of-object b h)
  all-below a (suc m) b zero c (suc k) h g = no-object (of-null b g) (of-object b h)
  all-below a (suc m) b (suc n) c zero h g = g
  all-below a (suc m) b (suc n) c (suc k) h g = components a m b n c k h g

  pub below-below : (s t u : Ty) → is_subtype p s t ≡ true → is_subtype p t u ≡ true → is_subtype p s u ≡ true
  unfolding is_subtype
  below-below s t u h k = all-below s.base s.dims t.base t.dims u.base u.dims h k

  pub same-or-below : (s t u : Ty) → SameOrBelow p s t → SameOrBelow p t u → SameOrBelow p s u
  same-or-below s t u (inl e) q = subst (λ (x : Ty). SameOrBelow p x u) (sym e) q
  same-or-below s t u (inr h) (inl e) = inr (subst (λ (x : Ty). is_subtype p s x ≡ true) e h)
  same-or-below s t u (inr h) (inr k) = inr (below-below s t u h k)

  -- what goes to a place of a type goes to one of a type above it
  pub agrees-above : (s t u : Ty) → agrees p s t ≡ true → SameOrBelow p t u → agrees p s u ≡ true
  agrees-above s t u h (inl e) = subst (λ (x : Ty). agrees p s x ≡ true) e h
  agrees-above s t u h (inr k) = either (agrees p s u ≡ true) (is_primitive s && same_type s t) (is_subtype p s t) h
      (λ x. let q = two {a = is_primitive s} x in absurd (no-primitive p t u k (ap is_primitive (sym (same_type-equal s t q.1)) ∙ q.0)))
      (λ x. or-right (is_primitive s && same_type s u) (is_subtype p s u) (below-below s t u x k))

-- ---- arrays of types of which one is below the other (JLS 4.10.3)

above-arrays : (p : CoreProgram) (a b : Base) (m n : ℕ) → n < m → is_object b ≡ true → are_components_below p a m b n ≡ true
above-arrays p a b zero n h e = absurd (omega (arith, h))
above-arrays p a b (suc m) zero h e = e
above-arrays p a b (suc m) (suc n) h e = above-arrays p a b m n (omega (arith, h)) e

of-elements : (p : CoreProgram) (a b : Base) (n : ℕ) → (is_base_below p a b || same_base a b) ≡ true → are_components_below p a n b n ≡ true
of-elements p a b zero h = h
of-elements p a b (suc n) h = of-elements p a b n h

arrays : (p : CoreProgram) (a : Base) (m : ℕ) (b : Base) (n k : ℕ) → are_below p a m b 0 ≡ true → n ≤ 254 → k ≡ min 255 (m + n) → are_below p a k b n ≡ true
arrays p a zero b zero k h few e = let z : k ≡ 0 = omega (arith, e) in subst (λ (i : ℕ). are_below p a i b 0 ≡ true) (sym z) h
arrays p a zero b (suc n) zero h few e = absurd (omega (arith, e))
arrays p a zero b (suc n) (suc k) h few e = let z : k ≡ n = omega (arith, e, few) in subst (λ (i : ℕ). are_components_below p a i b n ≡ true) (sym z) (of-elements p a b n (or-left (is_base_below p a b) (same_base a b) h))
arrays p a (suc m) b n zero h few e = absurd (omega (arith, e))
arrays p a (suc m) b zero (suc k) h few e = h
arrays p a (suc m) b (suc n) (suc k) h few e = above-arrays p a b k n (omega (arith, e, few)) h

pub arrays-below : (p : CoreProgram) (a b : Base) (m n : ℕ) → is_subtype p (record { base = a; dims = m }) (record { base = b; dims = 0 }) ≡ true → n ≤ 254
    → is_subtype p (record { base = a; dims = min 255 (m + n) }) (record { base = b; dims = n }) ≡ true
unfolding is_subtype
arrays-below p a b m n h few = arrays p a m b n (min 255 (m + n)) h few refl
