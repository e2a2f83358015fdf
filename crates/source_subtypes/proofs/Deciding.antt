-- Subtypes, decided by dimensions and elements.
use Rattle.std.proofs.Common.{◌≡◌, ◌<◌, List, refl, sym, ap, ◌∙◌, arith}
use Rattle.std.specs.Prelude.{Bool, true, false, ◌&&◌, ◌||◌}
use Rattle.je_scopes.specs.SourceTypes.{SourceType, same_source_type}
use Rattle.name_types.specs.declared.types.SrcTy.{SrcTy}
use Rattle.name_types.specs.View.{base_shown, shown}
use Rattle.name_types.proofs.Views.{type_is}
use Rattle.source_types.specs.Heads.{ClassHead}
use Rattle.source_types.specs.Supertypes.{has_type, supertypes}
use Rattle.source_types.specs.Subtypes.{element_of, is_reference, is_object, is_null, is_element_below, is_subtype}
use Rattle.source_types.proofs.Dimensions.{fewer, more, alike, elements}
use Rattle.source_types.proofs.Reaching.{itself_above}
use Rattle.source_subtypes.proofs.Equal.{shown-dims, shown-element}

module _ (heads : List ClassHead) (s t : SrcTy) where
  pub fewer-dims : s.dims < t.dims → is_null (base_shown s.base 0) ≡ is_subtype heads (shown s) (shown t)
  fewer-dims l = ap is_null (sym (shown-element s)) ∙ fewer heads (shown s) (shown t) (omega (arith, shown-dims s, shown-dims t, l))

  pub more-dims : t.dims < s.dims → is_object (base_shown t.base 0) ≡ is_subtype heads (shown s) (shown t)
  more-dims l = ap is_object (sym (shown-element t)) ∙ more heads (shown s) (shown t) (omega (arith, shown-dims s, shown-dims t, l))

  pub components : (e f : SourceType) → e ≡ element_of (shown s) → f ≡ element_of (shown t) → s.dims ≡ t.dims → 0 < s.dims →
      (is_element_below heads e f || same_source_type e f) ≡ is_subtype heads (shown s) (shown t)
  components e f p q d l = (λ i. is_element_below heads (p i) (q i) || same_source_type (p i) (q i))
      ∙ alike heads (shown s) (shown t) (omega (arith, shown-dims s, shown-dims t, d)) (omega (arith, shown-dims s, l))

  pub without-dims : (e f : SourceType) → e ≡ element_of (shown s) → f ≡ element_of (shown t) → s.dims ≡ 0 → t.dims ≡ 0 →
      is_element_below heads e f ≡ is_subtype heads (shown s) (shown t)
  without-dims e f p q d l = (λ i. is_element_below heads (p i) (q i)) ∙ elements heads (shown s) (shown t) (omega (arith, shown-dims s, d)) (omega (arith, shown-dims t, l))

  -- ---- of two types without dimensions

  flat-shown : (u : SrcTy) → u.dims ≡ 0 → base_shown u.base 0 ≡ shown u
  flat-shown u d = ap (base_shown u.base) (sym d) ∙ sym (type_is u)

  or-false : (r x y : Bool) → r ≡ false → false ≡ (r && (x || y))
  or-false true x y e = absurd cc
  or-false false x y e = refl

  pub no-reference : s.dims ≡ 0 → is_reference (base_shown s.base 0) ≡ false → false ≡ is_element_below heads (shown s) (shown t)
  no-reference d e = or-false (is_reference (shown s)) (is_object (shown t) || is_null (shown s) && is_reference (shown t)) (has_type (supertypes heads (shown s)) (shown t))
      (ap is_reference (sym (flat-shown s d)) ∙ e)

  decided-at-once : (r x y : Bool) → r ≡ true → x ≡ true → true ≡ (r && (x || y))
  decided-at-once true true y e f = refl
  decided-at-once true false y e f = absurd cc
  decided-at-once false x y e f = absurd cc

  or-right : (a b : Bool) → b ≡ true → (a || b) ≡ true
  or-right true b e = refl
  or-right false b e = e

  or-left : (a b : Bool) → a ≡ true → (a || b) ≡ true
  or-left true b e = refl
  or-left false b e = absurd cc

  pub below-object : s.dims ≡ 0 → t.dims ≡ 0 → is_reference (base_shown s.base 0) ≡ true → is_object (base_shown t.base 0) ≡ true →
      true ≡ is_element_below heads (shown s) (shown t)
  below-object d l r o = decided-at-once (is_reference (shown s)) (is_object (shown t) || is_null (shown s) && is_reference (shown t)) (has_type (supertypes heads (shown s)) (shown t))
      (ap is_reference (sym (flat-shown s d)) ∙ r) (or-left (is_object (shown t)) _ (ap is_object (sym (flat-shown t l)) ∙ o))

  pub null-below : s.dims ≡ 0 → t.dims ≡ 0 → is_reference (base_shown s.base 0) ≡ true → (is_null (base_shown s.base 0) && is_reference (base_shown t.base 0)) ≡ true →
      true ≡ is_element_below heads (shown s) (shown t)
  null-below d l r n = decided-at-once (is_reference (shown s)) (is_object (shown t) || is_null (shown s) && is_reference (shown t)) (has_type (supertypes heads (shown s)) (shown t))
      (ap is_reference (sym (flat-shown s d)) ∙ r)
      (or-right (is_object (shown t)) _ ((λ i. is_null (sym (flat-shown s d) i) && is_reference (sym (flat-shown t l) i)) ∙ n))

  by-walk : (r x y : Bool) → r ≡ true → y ≡ true → true ≡ (r && (x || y))
  by-walk true true y e f = refl
  by-walk true false y e f = sym f
  by-walk false x y e f = absurd cc

  pub itself-below : s.dims ≡ 0 → is_reference (base_shown s.base 0) ≡ true → same_source_type (shown s) (shown t) ≡ true → true ≡ is_element_below heads (shown s) (shown t)
  itself-below d r e = by-walk (is_reference (shown s)) (is_object (shown t) || is_null (shown s) && is_reference (shown t)) (has_type (supertypes heads (shown s)) (shown t))
      (ap is_reference (sym (flat-shown s d)) ∙ r) (itself_above heads (shown s) (shown t) e)

  by-list : (r o n q y : Bool) → r ≡ true → o ≡ false → (n && q) ≡ false → y ≡ (r && ((o || n && q) || y))
  by-list true false n q y e f g = rw g refl
  by-list true true n q y e f g = absurd cc
  by-list false o n q y e f g = absurd cc

  pub above-listed : s.dims ≡ 0 → t.dims ≡ 0 → is_reference (base_shown s.base 0) ≡ true → is_object (base_shown t.base 0) ≡ false →
      (is_null (base_shown s.base 0) && is_reference (base_shown t.base 0)) ≡ false →
      has_type (supertypes heads (shown s)) (shown t) ≡ is_element_below heads (shown s) (shown t)
  above-listed d l r o n = by-list (is_reference (shown s)) (is_object (shown t)) (is_null (shown s)) (is_reference (shown t)) (has_type (supertypes heads (shown s)) (shown t))
      (ap is_reference (sym (flat-shown s d)) ∙ r) (ap is_object (sym (flat-shown t l)) ∙ o)
      ((λ i. is_null (sym (flat-shown s d) i) && is_reference (sym (flat-shown t l) i)) ∙ n)
