-- The test for subtypes and the closure.
use Rattle.std.proofs.Common.{◌≡◌, ℕ, zero, suc, ◌<◌, List, [], refl, sym, ap, ◌∙◌, subst, inl, inr, arith}
use Rattle.std.specs.Prelude.{Bool, true, false, ◌&&◌, ◌||◌, ◌⊎◌}
use Rattle.std.specs.List.{list_any, Contains}
use Rattle.je_core.specs.declared.types.Base.{Base}
use Rattle.je_core.specs.declared.types.Base.TheVariants as base
use Rattle.je_classes.proofs.Lists.{bool_cases}
use Rattle.je_scopes.specs.SourceTypes.{SourceType, SourceTypes, plain, of_class, of_variable, same_source_type, null_type}
use Rattle.source_types.specs.Heads.{ClassHead, object_type}
use Rattle.source_types.specs.Supertypes.{directly_above, supertypes}
use Rattle.source_types.specs.Subtypes.{dims_of, element_of, array_of, is_reference, Directly, to_super, to_object, from_null, of_arrays, Subtype, itself, through, is_object, is_null, is_element_below, are_components_below, are_below, is_subtype}
use Rattle.source_types.specs.Laws.{IsAcyclic, is_class_or_variable, SubtypesAreDecided}
use Rattle.source_types.proofs.Same.{same-refl, same-equal, and-true, and-left, and-right}
use Rattle.source_types.proofs.Above.{Above, here, up, above-to, above-from}

-- ---- elements and arrays

-- an array of so many dimensions over an element
abbrev raised : SourceType → ℕ → SourceType
raised t zero = t
raised t (suc n) = array_of (raised t n)

plain-raised : (b : Base) (n : ℕ) → raised (plain b 0) n ≡ plain b n
plain-raised b zero = refl
plain-raised b (suc n) = ap array_of (plain-raised b n)

class-raised : (c : ℕ) (ts : SourceTypes) (n : ℕ) → raised (of_class c ts 0) n ≡ of_class c ts n
class-raised c ts zero = refl
class-raised c ts (suc n) = ap array_of (class-raised c ts n)

variable-raised : (c at n : ℕ) → raised (of_variable c at 0) n ≡ of_variable c at n
variable-raised c at zero = refl
variable-raised c at (suc n) = ap array_of (variable-raised c at n)

raised-back : (t : SourceType) → raised (element_of t) (dims_of t) ≡ t
raised-back (plain b n) = plain-raised b n
raised-back (of_class c ts n) = class-raised c ts n
raised-back (of_variable c at n) = variable-raised c at n

element-array : (t : SourceType) → element_of (array_of t) ≡ element_of t
element-array (plain b n) = refl
element-array (of_class c ts n) = refl
element-array (of_variable c at n) = refl

dims-array : (t : SourceType) → dims_of (array_of t) ≡ suc (dims_of t)
dims-array (plain b n) = refl
dims-array (of_class c ts n) = refl
dims-array (of_variable c at n) = refl

flat : (t : SourceType) → dims_of (element_of t) ≡ 0
flat (plain b n) = refl
flat (of_class c ts n) = refl
flat (of_variable c at n) = refl

element-flat : (t : SourceType) → dims_of t ≡ 0 → element_of t ≡ t
element-flat (plain b n) e = ap (λ (k : ℕ). plain b k) (sym e)
element-flat (of_class c ts n) e = ap (λ (k : ℕ). of_class c ts k) (sym e)
element-flat (of_variable c at n) e = ap (λ (k : ℕ). of_variable c at k) (sym e)

array-reference : (t : SourceType) → is_reference (array_of t) ≡ true
array-reference (plain b n) = refl
array-reference (of_class c ts n) = refl
array-reference (of_variable c at n) = refl

-- ---- what is null, and what is Object

null-is : (t : SourceType) → dims_of t ≡ 0 → is_null t ≡ true → t ≡ null_type 0
null-is (plain base.Null n) d e = ap (λ (k : ℕ). plain base.Null k) d
null-is (plain base.Bool n) d e = absurd cc
null-is (plain base.Byte n) d e = absurd cc
null-is (plain base.Short n) d e = absurd cc
null-is (plain base.Char n) d e = absurd cc
null-is (plain base.Int n) d e = absurd cc
null-is (plain base.Long n) d e = absurd cc
null-is (plain base.Void n) d e = absurd cc
null-is (plain (base.Class c) n) d e = absurd cc
null-is (of_class c ts n) d e = absurd cc
null-is (of_variable c at n) d e = absurd cc

object-is : (t : SourceType) → is_object t ≡ true → t ≡ object_type
object-is t e = same-equal t object_type e

named-reference : (t : SourceType) → is_class_or_variable t ≡ true → is_reference t ≡ true
named-reference (plain b n) e = absurd cc
named-reference (of_class c ts n) e = refl
named-reference (of_variable c at n) e = refl

named-flat : (t : SourceType) → is_class_or_variable t ≡ true → dims_of t ≡ 0
named-flat (plain b n) e = absurd cc
named-flat (of_class c ts zero) e = refl
named-flat (of_class c ts (suc n)) e = absurd cc
named-flat (of_variable c at zero) e = refl
named-flat (of_variable c at (suc n)) e = absurd cc

named-not-null : (t : SourceType) → is_class_or_variable t ≡ true → is_null t ≡ false
named-not-null (plain b n) e = absurd cc
named-not-null (of_class c ts n) e = refl
named-not-null (of_variable c at n) e = refl

-- ---- the test is sound

module _ (heads : List ClassHead) (a : IsAcyclic heads) where
  arrays-below : {s t : SourceType} → Subtype heads s t → Subtype heads (array_of s) (array_of t)
  arrays-below (itself {t = t} r) = itself (array-reference t)
  arrays-below (through d q) = through (of_arrays d) (arrays-below q)

  above-below : {s t : SourceType} → Above heads s t → is_reference s ≡ true → Subtype heads s t
  above-below here r = itself r
  above-below (up {s = s} {u = u} q w) r = through (to_super q) (above-below w (named-reference u (a.named s u q)))

  below-object : (s t : SourceType) → is_reference s ≡ true → is_object t ≡ true → Subtype heads s t
  below-object s t r e = subst (Subtype heads s) (sym (object-is t e)) (through (to_object r) (itself refl))

  null-below : (s t : SourceType) → dims_of s ≡ 0 → is_null s ≡ true → is_reference t ≡ true → Subtype heads s t
  null-below s t d e r = subst (λ (k : SourceType). Subtype heads k t) (sym (null-is s d e)) (through (from_null r) (itself r))

  element-sound : (s t : SourceType) → dims_of s ≡ 0 → is_element_below heads s t ≡ true → Subtype heads s t
  element-sound s t d e =
      let r : is_reference s ≡ true = and-left (is_reference s) _ e in
      bool_cases (λ b. (b || is_null s && is_reference t || list_any (λ u. same_source_type u t) (supertypes heads s)) ≡ true → Subtype heads s t) (is_object t)
      (λ q h. below-object s t r q)
      (λ q h. bool_cases (λ b. (b || list_any (λ u. same_source_type u t) (supertypes heads s)) ≡ true → Subtype heads s t) (is_null s && is_reference t)
      (λ k g. null-below s t d (and-left (is_null s) (is_reference t) k) (and-right (is_null s) (is_reference t) k))
      (λ k g. above-below (above-to heads s t g) r) h)
      (and-right (is_reference s) _ e)

  -- a component of an array is the same, or below
  abbrev Component : SourceType → SourceType → Type 0
  Component s t = (s ≡ t) ⊎ Subtype heads s t

  array-component : (s t : SourceType) → Component s t → Subtype heads (array_of s) (array_of t)
  array-component s t (inl e) = subst (λ (u : SourceType). Subtype heads (array_of s) (array_of u)) e (itself (array-reference s))
  array-component s t (inr q) = arrays-below q

  component-sound : (s : SourceType) (m : ℕ) (t : SourceType) (n : ℕ) → dims_of s ≡ 0 → are_components_below heads s m t n ≡ true → Component (raised s m) (raised t n)
  component-sound s zero t zero d e = bool_cases (λ b. (b || same_source_type s t) ≡ true → Component s t) (is_element_below heads s t)
      (λ q h. inr (element-sound s t d q))
      (λ q h. inl (same-equal s t h)) e
  component-sound s zero t (suc n) d e = inr (null-below s (raised t (suc n)) d e (array-reference (raised t n)))
  component-sound s (suc m) t zero d e = inr (below-object (raised s (suc m)) t (array-reference (raised s m)) e)
  component-sound s (suc m) t (suc n) d e = inr (array-component (raised s m) (raised t n) (component-sound s m t n d e))

  sound : (s : SourceType) (m : ℕ) (t : SourceType) (n : ℕ) → dims_of s ≡ 0 → are_below heads s m t n ≡ true → Subtype heads (raised s m) (raised t n)
  sound s zero t zero d e = element-sound s t d e
  sound s zero t (suc n) d e = null-below s (raised t (suc n)) d e (array-reference (raised t n))
  sound s (suc m) t zero d e = below-object (raised s (suc m)) t (array-reference (raised s m)) e
  sound s (suc m) t (suc n) d e = array-component (raised s m) (raised t n) (component-sound s m t n d e)

  -- ---- and complete

  abbrev is_below : SourceType → SourceType → Bool
  is_below s t = are_below heads (element_of s) (dims_of s) (element_of t) (dims_of t)

  abbrev is_component : SourceType → SourceType → Bool
  is_component s t = are_components_below heads (element_of s) (dims_of s) (element_of t) (dims_of t)

  sound-types : (s t : SourceType) → is_below s t ≡ true → Subtype heads s t
  sound-types s t e =
      subst (λ (u : SourceType). Subtype heads u t) (raised-back s) (subst (λ (u : SourceType). Subtype heads (raised (element_of s) (dims_of s)) u) (raised-back t)
      (sound (element_of s) (dims_of s) (element_of t) (dims_of t) (flat s) e))

  reference-above : {s t : SourceType} → Subtype heads s t → is_reference t ≡ true
  reference-above (itself r) = r
  reference-above (through d q) = reference-above q

  reference-of : {s t : SourceType} → Directly heads s t → is_reference t ≡ true
  reference-of (to_super {s = s} {t = t} q) = named-reference t (a.named s t q)
  reference-of (to_object r) = refl
  reference-of (from_null r) = r
  reference-of (of_arrays {t = t} d) = array-reference t

  arrays-are : (s t : SourceType) → is_below (array_of s) (array_of t) ≡ is_component s t
  arrays-are s t = rw (element-array s, dims-array s, element-array t, dims-array t) refl

  components-refl : (t : SourceType) (m : ℕ) → are_components_below heads t m t m ≡ true
  components-refl t zero = bool_cases (λ b. (b || same_source_type t t) ≡ true) (is_element_below heads t t) (λ q. refl) (λ q. same-refl t)
  components-refl t (suc m) = components-refl t m

  or-last : (x y z : Bool) → z ≡ true → (x || y || z) ≡ true
  or-last true y z e = refl
  or-last false true z e = refl
  or-last false false z e = e

  or-middle : (x y z : Bool) → y ≡ true → (x || y || z) ≡ true
  or-middle true y z e = refl
  or-middle false true z e = refl
  or-middle false false z e = absurd cc

  or-outer : (x y z : Bool) → x ≡ true → (x || y || z) ≡ true
  or-outer true y z e = refl
  or-outer false y z e = absurd cc

  or-first : (x y : Bool) → x ≡ true → (x || y) ≡ true
  or-first true y e = refl
  or-first false y e = absurd cc

  element-object : (s t : SourceType) → is_reference s ≡ true → is_object t ≡ true → is_element_below heads s t ≡ true
  element-object s t r o =
      and-true (is_reference s) _ r (or-outer (is_object t) (is_null s && is_reference t) (list_any (λ u. same_source_type u t) (supertypes heads s)) o)

  element-above : (s t : SourceType) → is_reference s ≡ true → Above heads s t → is_element_below heads s t ≡ true
  element-above s t r w =
      and-true (is_reference s) _ r (or-last (is_object t) (is_null s && is_reference t) (list_any (λ u. same_source_type u t) (supertypes heads s)) (above-from heads a s t w))

  reflexive-at : (t : SourceType) (n : ℕ) → is_reference (raised t n) ≡ true → are_below heads t n t n ≡ true
  reflexive-at t zero r = element-above t t r here
  reflexive-at t (suc n) r = components-refl t n

  reflexive : (t : SourceType) → is_reference t ≡ true → is_below t t ≡ true
  reflexive t r = reflexive-at (element_of t) (dims_of t) (subst (λ (u : SourceType). is_reference u ≡ true) (sym (raised-back t)) r)

  -- all references are below Object, and null is below them
  below-top-at : (t : SourceType) (n : ℕ) → is_reference (raised t n) ≡ true → are_below heads t n object_type 0 ≡ true
  below-top-at t zero r = element-object t object_type r (same-refl object_type)
  below-top-at t (suc n) r = same-refl object_type

  below-top : (t : SourceType) → is_reference t ≡ true → is_below t object_type ≡ true
  below-top t r = below-top-at (element_of t) (dims_of t) (subst (λ (u : SourceType). is_reference u ≡ true) (sym (raised-back t)) r)

  above-bottom-at : (t : SourceType) (n : ℕ) → is_reference (raised t n) ≡ true → are_below heads (null_type 0) 0 t n ≡ true
  above-bottom-at t zero r = or-middle (is_object t) (is_reference t) _ r
  above-bottom-at t (suc n) r = refl

  above-bottom : (t : SourceType) → is_reference t ≡ true → is_below (null_type 0) t ≡ true
  above-bottom t r = above-bottom-at (element_of t) (dims_of t) (subst (λ (u : SourceType). is_reference u ≡ true) (sym (raised-back t)) r)

  -- what is above a class or a variable is Object, or is reached by a way upwards
  above-named : (t u : SourceType) → is_class_or_variable t ≡ true → is_element_below heads t u ≡ true → (is_object u ≡ true) ⊎ Above heads t u
  above-named t u c e =
      bool_cases (λ b. (b || is_null t && is_reference u || list_any (λ k. same_source_type k u) (supertypes heads t)) ≡ true → (b ≡ true) ⊎ Above heads t u) (is_object u)
      (λ q h. inl refl)
      (λ q h. inr (above-to heads t u (let k : is_null t ≡ false = named-not-null t c in let j : (false || list_any (λ k. same_source_type k u) (supertypes heads t)) ≡ true = subst (λ (b : Bool). (b && is_reference u || list_any (λ k. same_source_type k u) (supertypes heads t)) ≡ true) k h in j)))
      (and-right (is_reference t) _ e)

  source-reference : (s t : SourceType) → Contains (directly_above heads s) t → is_reference s ≡ true
  source-reference (plain b n) t q = absurd (let h : q.0 < 0 = q.1 in omega arith)
  source-reference (of_class c ts n) t q = refl
  source-reference (of_variable c at n) t q = refl

  source-flat : (s t : SourceType) → Contains (directly_above heads s) t → dims_of s ≡ 0
  source-flat (plain b n) t q = absurd (let h : q.0 < 0 = q.1 in omega arith)
  source-flat (of_class c ts zero) t q = refl
  source-flat (of_class c ts (suc n)) t q = absurd (let h : q.0 < 0 = q.1 in omega arith)
  source-flat (of_variable c at zero) t q = refl
  source-flat (of_variable c at (suc n)) t q = absurd (let h : q.0 < 0 = q.1 in omega arith)

  -- the test, at a type without dimensions
  at-flat : (s : SourceType) (u : SourceType) (n : ℕ) → dims_of s ≡ 0 → are_below heads (element_of s) (dims_of s) u n ≡ are_below heads s 0 u n
  at-flat s u n d = rw (element-flat s d, d) refl

  super-closes-at : (s t : SourceType) → Contains (directly_above heads s) t → (u : SourceType) (n : ℕ) → are_below heads t 0 u n ≡ true → are_below heads s 0 u n ≡ true
  super-closes-at s t q u (suc n) e = absurd (let f : is_null t ≡ false = named-not-null t (a.named s t q) in cc)
  super-closes-at s t q u zero e = by (above-named t u (a.named s t q) e) where
    by : (is_object u ≡ true) ⊎ Above heads t u → is_element_below heads s u ≡ true
    by (inl o) = element-object s u (source-reference s t q) o
    by (inr w) = element-above s u (source-reference s t q) (up q w)

  super-closes : (s t : SourceType) → Contains (directly_above heads s) t → (u : SourceType) → is_below t u ≡ true → is_below s u ≡ true
  super-closes s t q u e =
      at-flat s (element_of u) (dims_of u) (source-flat s t q)
      ∙ super-closes-at s t q (element_of u) (dims_of u) (sym (at-flat t (element_of u) (dims_of u) (named-flat t (a.named s t q))) ∙ e)

  only-object : {s t : SourceType} → Above heads s t → s ≡ object_type → t ≡ object_type
  only-object here e = e
  only-object (up {s = s} {u = u} q w) e =
      let none : Contains [] u = subst (λ (ks : List SourceType). Contains ks u) (ap (directly_above heads) e ∙ a.top) q in
      let h : none.0 < 0 = none.1 in absurd (omega arith)

  object-closes-at : (t u : SourceType) (n : ℕ) → is_reference t ≡ true → are_below heads object_type 0 u n ≡ true → are_below heads (element_of t) (dims_of t) u n ≡ true
  object-closes-at t u (suc n) r e = absurd cc
  object-closes-at t u zero r e = by (above-named object_type u refl e) where
    at-object : u ≡ object_type → are_below heads (element_of t) (dims_of t) u 0 ≡ true
    at-object k = subst (λ (v : SourceType). are_below heads (element_of t) (dims_of t) v 0 ≡ true) (sym k) (below-top t r)

    by : (is_object u ≡ true) ⊎ Above heads object_type u → are_below heads (element_of t) (dims_of t) u 0 ≡ true
    by (inl o) = at-object (object-is u o)
    by (inr w) = at-object (only-object w refl)

  components-to : (s : SourceType) (m : ℕ) (t : SourceType) (n : ℕ) → are_below heads s m t n ≡ true → are_components_below heads s m t n ≡ true
  components-to s zero t zero e = or-first (is_element_below heads s t) (same_source_type s t) e
  components-to s zero t (suc n) e = e
  components-to s (suc m) t zero e = e
  components-to s (suc m) t (suc n) e = e

  components-from : (s : SourceType) (m : ℕ) (t : SourceType) (n : ℕ) → are_components_below heads s m t n ≡ true → (are_below heads s m t n ≡ true) ⊎ (raised s m ≡ raised t n)
  components-from s zero t zero e = bool_cases (λ b. (b || same_source_type s t) ≡ true → (b ≡ true) ⊎ (s ≡ t)) (is_element_below heads s t)
      (λ q h. inl refl)
      (λ q h. inr (same-equal s t h)) e
  components-from s zero t (suc n) e = inl e
  components-from s (suc m) t zero e = inl e
  components-from s (suc m) t (suc n) e = inl e

  below-components : (s t u : SourceType) → ((v : SourceType) → is_below t v ≡ true → is_below s v ≡ true) → is_reference t ≡ true → is_component t u ≡ true → is_component s u ≡ true
  below-components s t u closes r e = by (components-from (element_of t) (dims_of t) (element_of u) (dims_of u) e) where
    by : (is_below t u ≡ true) ⊎ (raised (element_of t) (dims_of t) ≡ raised (element_of u) (dims_of u)) → is_component s u ≡ true
    by (inl b) = components-to (element_of s) (dims_of s) (element_of u) (dims_of u) (closes u b)
    by (inr k) =
        let same : t ≡ u = sym (raised-back t) ∙ k ∙ raised-back u in
        components-to (element_of s) (dims_of s) (element_of u) (dims_of u) (subst (λ (v : SourceType). is_below s v ≡ true) same (closes t (reflexive t r)))

  arrays-close : (s t : SourceType) → ((v : SourceType) → is_below t v ≡ true → is_below s v ≡ true) → is_reference t ≡ true → (u : SourceType) → is_below (array_of t) u ≡ true → is_below (array_of s) u ≡ true
  arrays-close s t closes r u e = by (dims_of u) refl where
    whole : (n : ℕ) → dims_of u ≡ suc n → u ≡ array_of (raised (element_of u) n)
    whole n k = sym (raised-back u) ∙ ap (raised (element_of u)) k

    by : (n : ℕ) → dims_of u ≡ n → is_below (array_of s) u ≡ true
    by zero k =
        let x : are_below heads (element_of t) (suc (dims_of t)) (element_of u) 0 ≡ true = subst (λ (n : ℕ). are_below heads (element_of t) (suc (dims_of t)) (element_of u) n ≡ true) k (sym (rw (element-array t, dims-array t) refl) ∙ e) in
        rw (element-array s, dims-array s, k) x
    by (suc n) k =
        let v = raised (element_of u) n in
        let below : is_below (array_of t) (array_of v) ≡ true = subst (λ (w : SourceType). is_below (array_of t) w ≡ true) (whole n k) e in
        subst (λ (w : SourceType). is_below (array_of s) w ≡ true) (sym (whole n k)) (arrays-are s v ∙ below-components s t v closes r (sym (arrays-are t v) ∙ below))

  closes : {s t : SourceType} → Directly heads s t → (u : SourceType) → is_below t u ≡ true → is_below s u ≡ true
  closes (to_super {s = s} {t = t} q) u e = super-closes s t q u e
  closes (to_object {t = t} r) u e = object-closes-at t (element_of u) (dims_of u) r e
  closes (from_null {t = t} r) u e = above-bottom u (reference-above (sound-types t u e))
  closes (of_arrays {s = s} {t = t} d) u e = arrays-close s t (closes d) (reference-of d) u e

  complete : {s t : SourceType} → Subtype heads s t → is_below s t ≡ true
  complete (itself {t = t} r) = reflexive t r
  complete (through {u = u} d q) = closes d u (complete q)

pub subtypes_decided : SubtypesAreDecided
unfolding is_subtype
subtypes_decided heads a s t = (sound-types heads a s t, complete heads a)
