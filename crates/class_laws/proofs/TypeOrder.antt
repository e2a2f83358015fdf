-- Subtypes are a partial order: two types that are below each other are one, by the test.
use Rattle.std.proofs.Common.{◌≡◌, ℕ, zero, suc, ◌<◌, List, [], refl, sym, ap, ◌∙◌, subst, arith}
use Rattle.std.specs.Prelude.{true, ◌||◌}
use Rattle.std.specs.List.{Contains}
use Rattle.je_core.specs.declared.types.Base.{Base}
use Rattle.je_core.specs.declared.types.Base.TheVariants as base
use Rattle.je_core.specs.declared.types.ClassId.{ClassId}
use Rattle.je_core.specs.declared.types.Ty.{Ty}
use Rattle.je_core.specs.Core.{CoreProgram}
use Rattle.je_classes.specs.Hierarchy.{supers_of, same_class, is_below, Below, same, above, object_class, IsAcyclic}
use Rattle.je_classes.specs.Subtypes.{array_of, Subtype, itself, through, same_base, is_object, is_null, is_base_below, are_components_below, are_below, is_subtype}
use Rattle.je_classes.specs.Laws.{SubtypesAreDecided}
use Rattle.je_classes.proofs.Lists.{bool_cases}
use Rattle.je_classes.proofs.Same.{same_base-equal}
use Rattle.je_classes.proofs.Below.{same_class-equal, below-to}
use Rattle.class_laws.specs.Orders.{SubtypeIsReflexive, SubtypeIsTransitive, SubtypeIsAntisymmetric}
use Rattle.class_laws.proofs.ClassOrder as classes

pub reflexive : SubtypeIsReflexive
reflexive p t r = itself r

onwards : {p : CoreProgram} {s t u : Ty} → Subtype p s t → Subtype p t u → Subtype p s u
onwards (itself r) q = q
onwards (through d r) q = through d (onwards r q)

pub transitive : SubtypeIsTransitive
transitive p s t u q r = onwards q r

abbrev type : Base → ℕ → Ty
type b n = record { base = b; dims = n }

-- ---- of `null` and Object only one is below an array, and only one above

null-no-object : (b : Base) → is_null b ≡ true → is_object b ≡ true → ⊥
null-no-object base.Null e h = absurd cc
null-no-object base.Bool e h = absurd cc
null-no-object base.Byte e h = absurd cc
null-no-object base.Short e h = absurd cc
null-no-object base.Char e h = absurd cc
null-no-object base.Int e h = absurd cc
null-no-object base.Long e h = absurd cc
null-no-object base.Void e h = absurd cc
null-no-object (base.Class c) e h = absurd cc

module _ (p : CoreProgram) (acyclic : IsAcyclic p) (first : supers_of p object_class ≡ []) where
  -- what Object is below is Object
  top-alone : {c d : ClassId} → Below p c d → c ≡ object_class → c ≡ d
  top-alone same e = refl
  top-alone (above {c = c} {e = k} q r) e =
      let none : Contains [] k = subst (λ (ks : List ClassId). Contains ks k) (ap (supers_of p) e ∙ first) q in
      let h : none.0 < 0 = none.1 in absurd (omega arith)

  from-top : (c d : ClassId) → same_class c object_class ≡ true → Below p c d → c ≡ d
  from-top c d e r = top-alone r (same_class-equal c object_class e)

  classes-same : (c d : ClassId) → (same_class d object_class || is_below p c d) ≡ true → (same_class c object_class || is_below p d c) ≡ true → c ≡ d
  classes-same c d e h =
      bool_cases (λ x. (x || is_below p c d) ≡ true → c ≡ d) (same_class d object_class)
      (λ dt _. bool_cases (λ x. (x || is_below p d c) ≡ true → c ≡ d) (same_class c object_class)
      (λ ct _. same_class-equal c object_class ct ∙ sym (same_class-equal d object_class dt))
      (λ cf k. sym (from-top d c dt (below-to p d c k))) h)
      (λ df j. bool_cases (λ x. (x || is_below p d c) ≡ true → c ≡ d) (same_class c object_class)
      (λ ct _. from-top c d ct (below-to p c d j))
      (λ cf k. classes.antisymmetric p acyclic c d (below-to p c d j) (below-to p d c k)) h) e

  bases-same : (a b : Base) → is_base_below p a b ≡ true → is_base_below p b a ≡ true → a ≡ b
  bases-same (base.Class c) (base.Class d) e h = ap (λ (k : ClassId). base.Class k) (classes-same c d e h)
  bases-same base.Null base.Null e h = refl
  bases-same base.Null (base.Class d) e h = absurd cc
  bases-same (base.Class c) base.Null e h = absurd cc
  bases-same (base.Class c) base.Bool e h = absurd cc
  bases-same (base.Class c) base.Byte e h = absurd cc
  bases-same (base.Class c) base.Short e h = absurd cc
  bases-same (base.Class c) base.Char e h = absurd cc
  bases-same (base.Class c) base.Int e h = absurd cc
  bases-same (base.Class c) base.Long e h = absurd cc
  bases-same (base.Class c) base.Void e h = absurd cc
  bases-same base.Null base.Bool e h = absurd cc
  bases-same base.Null base.Byte e h = absurd cc
  bases-same base.Null base.Short e h = absurd cc
  bases-same base.Null base.Char e h = absurd cc
  bases-same base.Null base.Int e h = absurd cc
  bases-same base.Null base.Long e h = absurd cc
  bases-same base.Null base.Void e h = absurd cc
  bases-same base.Bool b e h = absurd cc
  bases-same base.Byte b e h = absurd cc
  bases-same base.Short b e h = absurd cc
  bases-same base.Char b e h = absurd cc
  bases-same base.Int b e h = absurd cc
  bases-same base.Long b e h = absurd cc
  bases-same base.Void b e h = absurd cc

  one-type : (a b : Base) → a ≡ b → type a 0 ≡ type b 0
  one-type a b e = ap (λ (k : Base). type k 0) e

  components-same : (a : Base) (m : ℕ) (b : Base) (n : ℕ) → are_components_below p a m b n ≡ true → are_components_below p b n a m ≡ true → type a m ≡ type b n
  components-same a zero b zero e h =
      bool_cases (λ x. (x || same_base a b) ≡ true → type a 0 ≡ type b 0) (is_base_below p a b)
      (λ q _. bool_cases (λ x. (x || same_base b a) ≡ true → type a 0 ≡ type b 0) (is_base_below p b a)
      (λ r _. one-type a b (bases-same a b q r))
      (λ r k. one-type a b (sym (same_base-equal b a k))) h)
      (λ q k. one-type a b (same_base-equal a b k)) e
  components-same a zero b (suc n) e h = absurd (null-no-object a e h)
  components-same a (suc m) b zero e h = absurd (null-no-object b h e)
  components-same a (suc m) b (suc n) e h = ap array_of (components-same a m b n e h)

  types-same : (a : Base) (m : ℕ) (b : Base) (n : ℕ) → are_below p a m b n ≡ true → are_below p b n a m ≡ true → type a m ≡ type b n
  types-same a zero b zero e h = one-type a b (bases-same a b e h)
  types-same a zero b (suc n) e h = absurd (null-no-object a e h)
  types-same a (suc m) b zero e h = absurd (null-no-object b h e)
  types-same a (suc m) b (suc n) e h = ap array_of (components-same a m b n e h)

pub antisymmetric : SubtypesAreDecided → SubtypeIsAntisymmetric
unfolding is_subtype
antisymmetric decided p acyclic first s t q r =
    types-same p acyclic first s.base s.dims t.base t.dims ((decided p s t first).1 q) ((decided p t s first).1 r)
