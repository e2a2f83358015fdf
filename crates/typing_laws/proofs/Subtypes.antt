-- Subtypes of a source are erased to subtypes.
use Rattle.std.proofs.Common.{◌≡◌, ℕ, zero, suc, ◌+◌, ◌<◌, ◌≤◌, length, List, [], ◌∷◌, map, refl, sym, ap, ◌∙◌, subst, arith, min}
use Rattle.std.specs.Prelude.{Bool, true, false, ◌&&◌, ◌||◌}
use Rattle.std.specs.List.{Contains}
use Rattle.std.proofs.lemmas.Bool.{eq-eqb}
use Rattle.je_core.specs.declared.types.Base.{Base}
use Rattle.je_core.specs.declared.types.Base.TheVariants as base
use Rattle.je_core.specs.declared.types.ClassId.{ClassId}
use Rattle.je_core.specs.declared.types.Ty.{Ty}
use Rattle.je_core.specs.Core.{CoreProgram}
use Rattle.je_classes.specs.Hierarchy.{Below, same, above, is_below, object_class, same_class}
use Rattle.je_classes.specs.Subtypes.{is_base_below, same_base}
use Rattle.je_classes.specs.Subtypes as core
use Rattle.je_classes.proofs.Below.{below_decided}
use Rattle.je_classes.proofs.Lists.{contains-cases, contains-here, contains-later}
use Rattle.je_classes.proofs.Sets.{by_either}
use Rattle.je_classes.proofs.Same.{same_base-refl}
use Rattle.je_fitting.proofs.Booleans.{two}
use Rattle.je_scopes.specs.SourceTypes.{SourceType, SourceTypes, plain, of_class, of_variable, same_source_type}
use Rattle.source_types.specs.Erasure.{class_numbered, erased, erased_within}
use Rattle.source_types.specs.Heads.{ClassHead, bound_of, object_type, supers_of, variable_count}
use Rattle.source_types.specs.Substitution.{substituted}
use Rattle.source_types.specs.Subtypes.{are_below, are_components_below, dims_of, element_of, is_element_below, is_null, is_object, is_reference, is_subtype}
use Rattle.source_types.specs.Supertypes.{has_type, supertypes}
use Rattle.source_types.proofs.Above.{Above, here, up, above-to}
use Rattle.source_types.proofs.Same.{same-equal}
use Rattle.typing_laws.specs.Correspondence.{HasHeads, SubtypesAreErased}
use Rattle.typing_laws.specs.Fitting.{BoundsFit}
use Rattle.typing_laws.proofs.Erased.{is_class_base, variable-class}
use Rattle.source_types.specs.Laws.{is_class_or_variable}

pub contains-none : {A : Type 0} (u : A) → Contains [] u → ⊥
contains-none {A = A} u q = let l : q.0 < length {A = A} [] = q.1 in omega arith

same-class : {c d : ClassId} → base.Class c ≡ base.Class d → c ≡ d
same-class {c = c} e = ap (λ b. class_or c b) e
  where
    class_or : ClassId → Base → ClassId
    class_or c (base.Class d) = d
    class_or c b = c

pub from-map : {A B : Type 0} (f : A → B) (xs : List A) (u : B) → Contains (map f xs) u → (w : A) × Contains xs w × (f w ≡ u)
from-map f [] u q = absurd (contains-none u q)
from-map f (x ∷ xs) u q = by_either (λ e. (x, contains-here x xs, e)) (λ r. let k = from-map f xs u r in (k.0, contains-later x k.0 xs k.1, k.2)) (contains-cases (f x) u (map f xs) q)

pub or-left : (a b : Bool) → a ≡ true → (a || b) ≡ true
or-left true b h = refl
or-left false b h = absurd cc

pub or-right : (a b : Bool) → b ≡ true → (a || b) ≡ true
or-right true b h = refl
or-right false b h = h

pub either : (P : Type 0) (a b : Bool) → (a || b) ≡ true → (a ≡ true → P) → (b ≡ true → P) → P
either P true b h f g = f refl
either P false b h f g = g h

module _ (heads : List ClassHead) where
  abbrev pub erased_base : SourceType → Base
  erased_base t = (erased heads t).base

  pub within-class : (steps c : ℕ) (ts : SourceTypes) (n : ℕ) → erased_within heads steps (of_class c ts n) ≡ record { base = base.Class (class_numbered c); dims = n }
  within-class zero c ts n = refl
  within-class (suc k) c ts n = refl

  pub within-plain : (steps : ℕ) (b : Base) (n : ℕ) → erased_within heads steps (plain b n) ≡ record { base = b; dims = n }
  within-plain zero b n = refl
  within-plain (suc k) b n = refl

  pub class-base : (c : ℕ) (ts : SourceTypes) (n : ℕ) → erased_base (of_class c ts n) ≡ base.Class (class_numbered c)
  unfolding erased
  class-base c ts n = ap (λ (u : Ty). u.base) (within-class (variable_count heads) c ts n)

  pub plain-base : (b : Base) (n : ℕ) → erased_base (plain b n) ≡ b
  unfolding erased
  plain-base b n = ap (λ (u : Ty). u.base) (within-plain (variable_count heads) b n)

module _ (heads : List ClassHead) (bounds : BoundsFit heads) where
  -- ---- the erasure of a type by that of what it is an array of

  bound-dims : (steps : ℕ) → ((c at : ℕ) → (erased_within heads steps (of_variable c at 0)).dims ≡ 0) → (t : SourceType) → is_class_or_variable t ≡ true → (erased_within heads steps t).dims ≡ 0
  bound-dims steps variables (of_class c ts zero) h = ap (λ (u : Ty). u.dims) (within-class heads steps c ts 0)
  bound-dims steps variables (of_class c ts (suc n)) h = absurd cc
  bound-dims steps variables (of_variable c at zero) h = variables c at
  bound-dims steps variables (of_variable c at (suc n)) h = absurd cc
  bound-dims steps variables (plain b n) h = absurd cc

  variable-dims : (steps c at : ℕ) → (erased_within heads steps (of_variable c at 0)).dims ≡ 0
  variable-dims zero c at = refl
  variable-dims (suc k) c at = let d : (erased_within heads k (bound_of heads c at)).dims ≡ 0 = bound-dims k (λ d i. variable-dims k d i) (bound_of heads c at) (bounds c at) in ap (λ n. min 255 (n + 0)) d

  few : (n : ℕ) → n ≤ 255 → min 255 (0 + n) ≡ n
  few n h = omega (arith, h)

  variable-within : (steps c at n : ℕ) → n ≤ 255 → erased_within heads steps (of_variable c at n) ≡ record { base = (erased_within heads steps (of_variable c at 0)).base; dims = n }
  variable-within zero c at n h = refl
  variable-within (suc k) c at n h =
      let d : (erased_within heads k (bound_of heads c at)).dims ≡ 0 = bound-dims k (λ d i. variable-dims k d i) (bound_of heads c at) (bounds c at) in
      ap (λ m. record { base = (erased_within heads k (bound_of heads c at)).base; dims = m }) (ap (λ m. min 255 (m + n)) d ∙ few n h)

  parts-within : (steps : ℕ) (t : SourceType) → dims_of t ≤ 255 → erased_within heads steps t ≡ record { base = (erased_within heads steps (element_of t)).base; dims = dims_of t }
  parts-within zero (plain b n) h = refl
  parts-within (suc k) (plain b n) h = refl
  parts-within zero (of_class c ts n) h = refl
  parts-within (suc k) (of_class c ts n) h = refl
  parts-within steps (of_variable c at n) h = variable-within steps c at n h

  pub parts : (t : SourceType) → dims_of t ≤ 255 → erased heads t ≡ record { base = erased_base heads (element_of t); dims = dims_of t }
  unfolding erased
  parts t h = parts-within (variable_count heads) t h

module _ (p : CoreProgram) (heads : List ClassHead) (known : HasHeads p heads) where
  -- ---- ways upwards

  pub record IsBelow (c : ClassId) (t : SourceType) : Type 0 where
    pub class : ClassId
    pub is : erased_base heads t ≡ base.Class class
    pub way : Below p c class

  pub above-below : {s t : SourceType} → Above heads s t → (c : ClassId) → erased_base heads s ≡ base.Class c → IsBelow c t
  above-below here c e = record { class = c; is = e; way = same }
  above-below {s = of_class d args zero} (up {u = u} q r) c e =
      let w = from-map (substituted d args) (supers_of heads d) u q in
      let s = known.supers d w.0 w.1 in
      let next : substituted d args (of_class s.class s.arguments 0) ≡ u = ap (substituted d args) (sym s.is) ∙ w.2 in
      let base-is : erased_base heads u ≡ base.Class (class_numbered s.class) = ap (erased_base heads) (sym next) ∙ class-base heads s.class _ 0 in
      let further = above-below r (class_numbered s.class) base-is in
      let own : class_numbered d ≡ c = same-class (sym (class-base heads d args 0) ∙ e) in
      record { class = further.class; is = further.is; way = subst (λ (x : ClassId). Below p x further.class) own (above s.above further.way) }
  above-below {s = of_variable d at zero} (up {u = u} q r) c e =
      let next : bound_of heads d at ≡ u = by_either (λ x. x) (λ x. absurd (contains-none u x)) (contains-cases (bound_of heads d at) u [] q) in
      above-below r c (ap (erased_base heads) (sym next) ∙ ap (λ (y : Ty). y.base) (sym (known.variables d at)) ∙ e)
  above-below {s = of_class d args (suc n)} (up q r) c e = absurd (contains-none _ q)
  above-below {s = of_variable d at (suc n)} (up q r) c e = absurd (contains-none _ q)
  above-below {s = plain b n} (up q r) c e = absurd (contains-none _ q)

  -- ---- two types without dimensions

  -- the base of a reference
  data IsReferenceBase : Base → Type 0 where
    of_null : IsReferenceBase base.Null
    of_a_class : {c : ClassId} → IsReferenceBase (base.Class c)

  plain-reference : (b : Base) → is_reference (plain b 0) ≡ true → IsReferenceBase b
  plain-reference base.Null h = of_null
  plain-reference (base.Class c) h = of_a_class
  plain-reference base.Bool h = absurd cc
  plain-reference base.Byte h = absurd cc
  plain-reference base.Short h = absurd cc
  plain-reference base.Char h = absurd cc
  plain-reference base.Int h = absurd cc
  plain-reference base.Long h = absurd cc
  plain-reference base.Void h = absurd cc

  class-reference : (b : Base) → is_class_base b ≡ true → IsReferenceBase b
  class-reference (base.Class c) h = of_a_class
  class-reference base.Bool h = absurd cc
  class-reference base.Byte h = absurd cc
  class-reference base.Short h = absurd cc
  class-reference base.Char h = absurd cc
  class-reference base.Int h = absurd cc
  class-reference base.Long h = absurd cc
  class-reference base.Null h = absurd cc
  class-reference base.Void h = absurd cc

  pub variable-base : (c at n : ℕ) → is_class_base (erased_base heads (of_variable c at n)) ≡ true
  unfolding erased
  variable-base c at n = variable-class heads known.bounds (variable_count heads) c at n

  reference-base : (t : SourceType) → is_reference (element_of t) ≡ true → IsReferenceBase (erased_base heads (element_of t))
  reference-base (plain b n) h = subst IsReferenceBase (sym (plain-base heads b 0)) (plain-reference b h)
  reference-base (of_class c ts n) h = subst IsReferenceBase (sym (class-base heads c ts 0)) of_a_class
  reference-base (of_variable c at n) h = class-reference _ (variable-base c at 0)

  object-base : erased_base heads object_type ≡ base.Class object_class
  object-base = class-base heads object_class.0 _ 0

  below-object : (b : Base) → IsReferenceBase b → is_base_below p b (base.Class object_class) ≡ true
  below-object _ of_null = refl
  below-object _ (of_a_class {c = c}) = or-left (same_class object_class object_class) (is_below p c object_class) (eq-eqb object_class.0 object_class.0 refl)

  below-null : (b : Base) → IsReferenceBase b → is_base_below p base.Null b ≡ true
  below-null _ of_null = refl
  below-null _ of_a_class = refl

  null-base : (t : SourceType) → is_null (element_of t) ≡ true → erased_base heads (element_of t) ≡ base.Null
  null-base (plain base.Null n) h = plain-base heads base.Null 0
  null-base (plain base.Bool n) h = absurd cc
  null-base (plain base.Byte n) h = absurd cc
  null-base (plain base.Short n) h = absurd cc
  null-base (plain base.Char n) h = absurd cc
  null-base (plain base.Int n) h = absurd cc
  null-base (plain base.Long n) h = absurd cc
  null-base (plain base.Void n) h = absurd cc
  null-base (plain (base.Class c) n) h = absurd cc
  null-base (of_class c ts n) h = absurd cc
  null-base (of_variable c at n) h = absurd cc

  object-erased : (t : SourceType) → is_object t ≡ true → erased_base heads t ≡ base.Class object_class
  object-erased t h = ap (erased_base heads) (same-equal t object_type h) ∙ object-base

  -- what has a type above it that isn't itself is a class
  above-erased : (s t : SourceType) → Above heads (element_of s) t → IsReferenceBase (erased_base heads (element_of s)) → is_base_below p (erased_base heads (element_of s)) (erased_base heads t) ≡ true
  above-erased s t a r = by (erased_base heads (element_of s)) refl r
    where
      class-below : (c : ClassId) → erased_base heads (element_of s) ≡ base.Class c → is_base_below p (base.Class c) (erased_base heads t) ≡ true
      class-below c e =
          let k = above-below a c e in
          ap (is_base_below p (base.Class c)) k.is ∙ or-right (same_class k.class object_class) (is_below p c k.class) ((below_decided p c k.class).1 k.way)

      null-below : (u : SourceType) → Above heads u t → erased_base heads u ≡ base.Null → is_base_below p base.Null (erased_base heads t) ≡ true
      null-below u here e = ap (is_base_below p base.Null) e
      null-below (of_class d args n) (up q x) e = absurd (let none : base.Class (class_numbered d) ≡ base.Null = sym (class-base heads d args n) ∙ e in cc)
      null-below (of_variable d at n) (up q x) e = absurd (let none : is_class_base base.Null ≡ true = ap is_class_base (sym e) ∙ variable-base d at n in cc)
      null-below (plain b n) (up q x) e = absurd (contains-none _ q)

      by : (b : Base) → erased_base heads (element_of s) ≡ b → IsReferenceBase b → is_base_below p b (erased_base heads t) ≡ true
      by _ e of_null = null-below (element_of s) a e
      by _ e (of_a_class {c = c}) = class-below c e

  element-below : (s t : SourceType) → is_element_below heads (element_of s) (element_of t) ≡ true → is_base_below p (erased_base heads (element_of s)) (erased_base heads (element_of t)) ≡ true
  element-below s t h =
      let k = two {a = is_reference (element_of s)} h in
      let r = reference-base s k.0 in
      either _ (is_object (element_of t) || (is_null (element_of s) && is_reference (element_of t))) (has_type (supertypes heads (element_of s)) (element_of t)) k.1
      (λ x. either _ (is_object (element_of t)) (is_null (element_of s) && is_reference (element_of t)) x
      (λ y. ap (is_base_below p (erased_base heads (element_of s))) (object-erased (element_of t) y) ∙ below-object _ r)
      (λ y. let z = two {a = is_null (element_of s)} y in ap (λ b. is_base_below p b (erased_base heads (element_of t))) (null-base s z.0) ∙ below-null _ (reference-base t z.1)))
      (λ x. above-erased s (element_of t) (above-to heads (element_of s) (element_of t) x) r)

  -- ---- with dimensions

  is-null-base : (t : SourceType) → is_null (element_of t) ≡ true → core.is_null (erased_base heads (element_of t)) ≡ true
  is-null-base t h = ap core.is_null (null-base t h)

  is-object-base : (t : SourceType) → is_object t ≡ true → core.is_object (erased_base heads t) ≡ true
  is-object-base t h = ap core.is_object (object-erased t h) ∙ eq-eqb object_class.0 object_class.0 refl

  components-below : (s t : SourceType) (m n : ℕ) → are_components_below heads (element_of s) m (element_of t) n ≡ true
      → core.are_components_below p (erased_base heads (element_of s)) m (erased_base heads (element_of t)) n ≡ true
  components-below s t zero zero h = either _ (is_element_below heads (element_of s) (element_of t)) (same_source_type (element_of s) (element_of t)) h
      (λ e. or-left _ _ (element-below s t e))
      (λ e. or-right (is_base_below p (erased_base heads (element_of s)) (erased_base heads (element_of t))) _
      (subst (λ (u : SourceType). same_base (erased_base heads (element_of s)) (erased_base heads u) ≡ true) (same-equal (element_of s) (element_of t) e) (same_base-refl (erased_base heads (element_of s)))))
  components-below s t zero (suc n) h = is-null-base s h
  components-below s t (suc m) zero h = is-object-base (element_of t) h
  components-below s t (suc m) (suc n) h = components-below s t m n h

  all-below : (s t : SourceType) (m n : ℕ) → are_below heads (element_of s) m (element_of t) n ≡ true
      → core.are_below p (erased_base heads (element_of s)) m (erased_base heads (element_of t)) n ≡ true
  all-below s t zero zero h = element-below s t h
  all-below s t zero (suc n) h = is-null-base s h
  all-below s t (suc m) zero h = is-object-base (element_of t) h
  all-below s t (suc m) (suc n) h = components-below s t m n h

  pub subtype-erased : (s t : SourceType) → dims_of s ≤ 255 → dims_of t ≤ 255 → is_subtype heads s t ≡ true → core.is_subtype p (erased heads s) (erased heads t) ≡ true
  unfolding is_subtype core.is_subtype
  subtype-erased s t m n h =
      ap (λ (u : Ty). core.is_subtype p u (erased heads t)) (parts heads known.bounds s m)
      ∙ ap (core.is_subtype p (record { base = erased_base heads (element_of s); dims = dims_of s })) (parts heads known.bounds t n)
      ∙ all-below s t (dims_of s) (dims_of t) h

pub subtypes_are_erased : SubtypesAreErased
subtypes_are_erased p heads known s t m n h = subtype-erased p heads known s t m n h
