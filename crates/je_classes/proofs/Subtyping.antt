-- The test for subtypes and the closure.
use Rattle.std.proofs.Common.{◌≡◌, ℕ, zero, suc, ◌<◌, ◌∙◌, List, [], refl, sym, ap, subst, inl, inr, arith}
use Rattle.std.specs.Prelude.{true, ◌||◌, ◌⊎◌}
use Rattle.std.specs.List.{Contains}
use Rattle.je_core.specs.declared.types.Base.{Base}
use Rattle.je_core.specs.declared.types.Base.TheVariants as base
use Rattle.je_core.specs.declared.types.ClassId.{ClassId}
use Rattle.je_core.specs.declared.types.Ty.{Ty}
use Rattle.je_core.specs.Core.{CoreProgram}
use Rattle.je_classes.specs.Hierarchy.{supers_of, same_class, is_below, Below, same, above, object_class}
use Rattle.je_classes.specs.Subtypes.{class_type, null_type, array_of, is_reference_base, is_reference, Directly, to_super, to_object, from_null, of_arrays, Subtype, itself, through, same_base, is_object, is_null, is_base_below, are_components_below, are_below, is_subtype}
use Rattle.je_classes.specs.Laws.{SubtypesAreDecided}
use Rattle.je_classes.proofs.Lists.{bool_cases}
use Rattle.je_classes.proofs.Same.{same_base-refl, same_base-equal}
use Rattle.je_classes.proofs.Below.{same_class-refl, same_class-equal, or_true, below-to, below-from, below-itself}

abbrev type : Base → ℕ → Ty
type b n = record { base = b; dims = n }

-- ---- bases

null-is : (b : Base) → is_null b ≡ true → b ≡ base.Null
null-is base.Null e = refl
null-is base.Bool e = absurd cc
null-is base.Byte e = absurd cc
null-is base.Short e = absurd cc
null-is base.Char e = absurd cc
null-is base.Int e = absurd cc
null-is base.Long e = absurd cc
null-is base.Void e = absurd cc
null-is (base.Class c) e = absurd cc

object-is : (b : Base) → is_object b ≡ true → b ≡ base.Class object_class
object-is (base.Class c) e = ap (λ (d : ClassId). base.Class d) (same_class-equal c object_class e)
object-is base.Null e = absurd cc
object-is base.Bool e = absurd cc
object-is base.Byte e = absurd cc
object-is base.Short e = absurd cc
object-is base.Char e = absurd cc
object-is base.Int e = absurd cc
object-is base.Long e = absurd cc
object-is base.Void e = absurd cc

-- ---- the test is sound

arrays-below : {p : CoreProgram} {s t : Ty} → Subtype p s t → Subtype p (array_of s) (array_of t)
arrays-below (itself r) = itself refl
arrays-below (through d q) = through (of_arrays d) (arrays-below q)

classes-below : {p : CoreProgram} {c d : ClassId} → Below p c d → Subtype p (class_type c) (class_type d)
classes-below same = itself refl
classes-below (above q r) = through (to_super q) (classes-below r)

below-object : {p : CoreProgram} (t : Ty) (c : ClassId) → is_reference t ≡ true → same_class c object_class ≡ true → Subtype p t (class_type c)
below-object {p = p} t c r e = subst (λ (d : ClassId). Subtype p t (class_type d)) (sym (same_class-equal c object_class e)) (through (to_object r) (itself refl))

above-null : {p : CoreProgram} (t : Ty) → is_reference t ≡ true → Subtype p null_type t
above-null t r = through (from_null r) (itself r)

base-sound : (p : CoreProgram) (a b : Base) → is_base_below p a b ≡ true → Subtype p (type a 0) (type b 0)
base-sound p (base.Class c) (base.Class d) e = bool_cases (λ b. (b || is_below p c d) ≡ true → Subtype p (class_type c) (class_type d)) (same_class d object_class)
    (λ q h. below-object (class_type c) d refl q)
    (λ q h. classes-below (below-to p c d h)) e
base-sound p base.Null (base.Class d) e = above-null (class_type d) refl
base-sound p base.Null base.Null e = itself refl
base-sound p (base.Class c) base.Null e = absurd cc
base-sound p (base.Class c) base.Bool e = absurd cc
base-sound p (base.Class c) base.Byte e = absurd cc
base-sound p (base.Class c) base.Short e = absurd cc
base-sound p (base.Class c) base.Char e = absurd cc
base-sound p (base.Class c) base.Int e = absurd cc
base-sound p (base.Class c) base.Long e = absurd cc
base-sound p (base.Class c) base.Void e = absurd cc
base-sound p base.Null base.Bool e = absurd cc
base-sound p base.Null base.Byte e = absurd cc
base-sound p base.Null base.Short e = absurd cc
base-sound p base.Null base.Char e = absurd cc
base-sound p base.Null base.Int e = absurd cc
base-sound p base.Null base.Long e = absurd cc
base-sound p base.Null base.Void e = absurd cc
base-sound p base.Bool b e = absurd cc
base-sound p base.Byte b e = absurd cc
base-sound p base.Short b e = absurd cc
base-sound p base.Char b e = absurd cc
base-sound p base.Int b e = absurd cc
base-sound p base.Long b e = absurd cc
base-sound p base.Void b e = absurd cc

null-sound : (p : CoreProgram) (a b : Base) (n : ℕ) → is_null a ≡ true → Subtype p (type a 0) (type b (suc n))
null-sound p a b n e = subst (λ (k : Base). Subtype p (type k 0) (type b (suc n))) (sym (null-is a e)) (above-null (type b (suc n)) refl)

object-sound : (p : CoreProgram) (a b : Base) (m : ℕ) → is_object b ≡ true → Subtype p (type a (suc m)) (type b 0)
object-sound p a b m e = subst (λ (k : Base). Subtype p (type a (suc m)) (type k 0)) (sym (object-is b e)) (through (to_object refl) (itself refl))

-- the same type, or a subtype
abbrev Component : CoreProgram → Ty → Ty → Type 0
Component p s t = (s ≡ t) ⊎ Subtype p s t

array-component : {p : CoreProgram} {s t : Ty} → Component p s t → Subtype p (array_of s) (array_of t)
array-component {p = p} {s = s} (inl e) = subst (λ (u : Ty). Subtype p (array_of s) (array_of u)) e (itself refl)
array-component (inr q) = arrays-below q

component-sound : (p : CoreProgram) (a : Base) (m : ℕ) (b : Base) (n : ℕ) → are_components_below p a m b n ≡ true → Component p (type a m) (type b n)
component-sound p a zero b zero e = bool_cases (λ k. (k || same_base a b) ≡ true → Component p (type a 0) (type b 0)) (is_base_below p a b)
    (λ q h. inr (base-sound p a b q))
    (λ q h. inl (ap (λ (k : Base). type k 0) (same_base-equal a b h))) e
component-sound p a zero b (suc n) e = inr (null-sound p a b n e)
component-sound p a (suc m) b zero e = inr (object-sound p a b m e)
component-sound p a (suc m) b (suc n) e = inr (array-component (component-sound p a m b n e))

sound : (p : CoreProgram) (a : Base) (m : ℕ) (b : Base) (n : ℕ) → are_below p a m b n ≡ true → Subtype p (type a m) (type b n)
sound p a zero b zero e = base-sound p a b e
sound p a zero b (suc n) e = null-sound p a b n e
sound p a (suc m) b zero e = object-sound p a b m e
sound p a (suc m) b (suc n) e = array-component (component-sound p a m b n e)

-- ---- and complete, where Object has nothing above it

nothing-above : (p : CoreProgram) → supers_of p object_class ≡ [] → {c d : ClassId} → Below p c d → c ≡ object_class → d ≡ object_class
nothing-above p o same e = e
nothing-above p o (above {c = c} {e = k} q r) e =
    let none : Contains [] k = subst (λ (ks : List ClassId). Contains ks k) (ap (supers_of p) e ∙ o) q in
    let h : none.0 < 0 = none.1 in absurd (omega arith)

reference-of : {p : CoreProgram} {s t : Ty} → Directly p s t → is_reference t ≡ true
reference-of (to_super q) = refl
reference-of (to_object r) = refl
reference-of (from_null r) = r
reference-of (of_arrays d) = refl

reference-above : {p : CoreProgram} {s t : Ty} → Subtype p s t → is_reference t ≡ true
reference-above (itself r) = r
reference-above (through d q) = reference-above q

base-refl : (p : CoreProgram) (a : Base) → is_reference_base a ≡ true → is_base_below p a a ≡ true
base-refl p (base.Class c) e = or_true (same_class c object_class) (is_below p c c) (below-itself p c)
base-refl p base.Null e = refl
base-refl p base.Bool e = absurd cc
base-refl p base.Byte e = absurd cc
base-refl p base.Short e = absurd cc
base-refl p base.Char e = absurd cc
base-refl p base.Int e = absurd cc
base-refl p base.Long e = absurd cc
base-refl p base.Void e = absurd cc

components-refl : (p : CoreProgram) (a : Base) (m : ℕ) → are_components_below p a m a m ≡ true
components-refl p a zero = or_true (is_base_below p a a) (same_base a a) (same_base-refl a)
components-refl p a (suc m) = components-refl p a m

reflexive : (p : CoreProgram) (a : Base) (m : ℕ) → is_reference (type a m) ≡ true → are_below p a m a m ≡ true
reflexive p a zero r = base-refl p a r
reflexive p a (suc m) r = components-refl p a m

-- all references are below Object, and null is below them
below-top : (p : CoreProgram) (a : Base) (m : ℕ) → is_reference (type a m) ≡ true → are_below p a m (base.Class object_class) 0 ≡ true
below-top p a (suc m) r = same_class-refl object_class
below-top p (base.Class c) zero r = rw (same_class-refl object_class) refl
below-top p base.Null zero r = refl
below-top p base.Bool zero r = absurd cc
below-top p base.Byte zero r = absurd cc
below-top p base.Short zero r = absurd cc
below-top p base.Char zero r = absurd cc
below-top p base.Int zero r = absurd cc
below-top p base.Long zero r = absurd cc
below-top p base.Void zero r = absurd cc

above-bottom : (p : CoreProgram) (b : Base) (n : ℕ) → is_reference (type b n) ≡ true → are_below p base.Null 0 b n ≡ true
above-bottom p b (suc n) r = refl
above-bottom p (base.Class c) zero r = refl
above-bottom p base.Null zero r = refl
above-bottom p base.Bool zero r = absurd cc
above-bottom p base.Byte zero r = absurd cc
above-bottom p base.Short zero r = absurd cc
above-bottom p base.Char zero r = absurd cc
above-bottom p base.Int zero r = absurd cc
above-bottom p base.Long zero r = absurd cc
above-bottom p base.Void zero r = absurd cc

-- what is above a class is a class
record AClass (p : CoreProgram) (c : ClassId) (b : Base) : Type 0 where
  class : ClassId
  is : b ≡ base.Class class
  above : (same_class class object_class || is_below p c class) ≡ true

class-above : (p : CoreProgram) (c : ClassId) (b : Base) → is_base_below p (base.Class c) b ≡ true → AClass p c b
class-above p c (base.Class d) e = record { class = d; is = refl; above = e }
class-above p c base.Null e = absurd cc
class-above p c base.Bool e = absurd cc
class-above p c base.Byte e = absurd cc
class-above p c base.Short e = absurd cc
class-above p c base.Char e = absurd cc
class-above p c base.Int e = absurd cc
class-above p c base.Long e = absurd cc
class-above p c base.Void e = absurd cc

below-super : (p : CoreProgram) (c d k : ClassId) → Contains (supers_of p c) d → (same_class k object_class || is_below p d k) ≡ true → (same_class k object_class || is_below p c k) ≡ true
below-super p c d k q e = bool_cases (λ x. (x || is_below p d k) ≡ true → (x || is_below p c k) ≡ true) (same_class k object_class)
    (λ h g. refl)
    (λ h g. below-from p (above q (below-to p d k g))) e

super-closes : (p : CoreProgram) (c d : ClassId) → Contains (supers_of p c) d → (b : Base) (n : ℕ) → are_below p (base.Class d) 0 b n ≡ true → are_below p (base.Class c) 0 b n ≡ true
super-closes p c d q b (suc n) e = absurd cc
super-closes p c d q b zero e =
    let k = class-above p d b e in
    subst (λ (x : Base). are_below p (base.Class c) 0 x 0 ≡ true) (sym k.is) (below-super p c d k.class q k.above)

object-closes : (p : CoreProgram) → supers_of p object_class ≡ [] → (a : Base) (m : ℕ) → is_reference (type a m) ≡ true → (b : Base) (n : ℕ) → are_below p (base.Class object_class) 0 b n ≡ true → are_below p a m b n ≡ true
object-closes p o a m r b (suc n) e = absurd cc
object-closes p o a m r b zero e =
    let k = class-above p object_class b e in
    let is : k.class ≡ object_class = bool_cases (λ x. (x || is_below p object_class k.class) ≡ true → k.class ≡ object_class) (same_class k.class object_class)
    (λ h g. same_class-equal k.class object_class h)
    (λ h g. nothing-above p o (below-to p object_class k.class g) refl) k.above in
    subst (λ (x : Base). are_below p a m x 0 ≡ true) (sym (k.is ∙ ap (λ (d : ClassId). base.Class d) is)) (below-top p a m r)

components-to : (p : CoreProgram) (a : Base) (m : ℕ) (b : Base) (n : ℕ) → are_below p a m b n ≡ true → are_components_below p a m b n ≡ true
components-to p a zero b zero e = rw e refl
components-to p a zero b (suc n) e = e
components-to p a (suc m) b zero e = e
components-to p a (suc m) b (suc n) e = e

components-from : (p : CoreProgram) (a : Base) (m : ℕ) (b : Base) (n : ℕ) → are_components_below p a m b n ≡ true → (are_below p a m b n ≡ true) ⊎ (type a m ≡ type b n)
components-from p a zero b zero e = bool_cases (λ k. (k || same_base a b) ≡ true → (k ≡ true) ⊎ (type a 0 ≡ type b 0)) (is_base_below p a b)
    (λ q h. inl refl)
    (λ q h. inr (ap (λ (k : Base). type k 0) (same_base-equal a b h))) e
components-from p a zero b (suc n) e = inl e
components-from p a (suc m) b zero e = inl e
components-from p a (suc m) b (suc n) e = inl e

below-components : (p : CoreProgram) (s t : Ty) (b : Base) (n : ℕ) → ((k : Base) (i : ℕ) → are_below p t.base t.dims k i ≡ true → are_below p s.base s.dims k i ≡ true) → is_reference t ≡ true →
    (are_below p t.base t.dims b n ≡ true) ⊎ (t ≡ type b n) → are_components_below p s.base s.dims b n ≡ true
below-components p s t b n closes r (inl e) = components-to p s.base s.dims b n (closes b n e)
below-components p s t b n closes r (inr e) =
    let below : are_below p s.base s.dims t.base t.dims ≡ true = closes t.base t.dims (reflexive p t.base t.dims r) in
    components-to p s.base s.dims b n (subst (λ (u : Ty). are_below p s.base s.dims u.base u.dims ≡ true) e below)

closes : (p : CoreProgram) → supers_of p object_class ≡ [] → {s t : Ty} → Directly p s t → (b : Base) (n : ℕ) → are_below p t.base t.dims b n ≡ true → are_below p s.base s.dims b n ≡ true
closes p o (to_super {c = c} {d = d} q) b n e = super-closes p c d q b n e
closes p o (to_object {t = t} r) b n e = object-closes p o t.base t.dims r b n e
closes p o (from_null {t = t} r) b n e = above-bottom p b n (reference-above (sound p t.base t.dims b n e))
closes p o (of_arrays d) b zero e = e
closes p o (of_arrays {s = s} {t = t} d) b (suc n) e = below-components p s t b n (λ k i h. closes p o d k i h) (reference-of d) (components-from p t.base t.dims b n e)

complete : (p : CoreProgram) → supers_of p object_class ≡ [] → {s t : Ty} → Subtype p s t → are_below p s.base s.dims t.base t.dims ≡ true
complete p o (itself {t = t} r) = reflexive p t.base t.dims r
complete p o (through {t = t} {u = u} d q) = closes p o d u.base u.dims (complete p o q)

pub subtypes_decided : SubtypesAreDecided
unfolding is_subtype
subtypes_decided p s t o = (sound p s.base s.dims t.base t.dims, complete p o)
