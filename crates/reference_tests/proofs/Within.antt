-- Two types, by their dimensions and what they are arrays of.
use Rattle.std.proofs.Common.{◌≡◌, ℕ, zero, suc, ◌<◌, List, refl, ap, ◌∙◌, arith}
use Rattle.je_scopes.specs.SourceTypes.{SourceType}
use Rattle.name_types.specs.declared.types.SrcTy.{SrcTy}
use Rattle.name_types.specs.View.{shown}
use Rattle.source_types.specs.Heads.{ClassHead}
use Rattle.source_types.specs.Subtypes.{dims_of, element_of}
use Rattle.je_typing.specs.Castable.{is_above_arrays, may_be_bounded, may_be_element, may_be_within}
use Rattle.source_subtypes.proofs.Equal.{shown-dims}

module _ (heads : List ClassHead) where
  fewer : (s t : SourceType) (m n : ℕ) → m < n → is_above_arrays s ≡ may_be_within heads s m t n
  fewer s t zero zero l = absurd (omega arith)
  fewer s t zero (suc n) l = refl
  fewer s t (suc m) zero l = absurd (omega arith)
  fewer s t (suc m) (suc n) l = fewer s t m n (omega arith)

  more : (s t : SourceType) (m n : ℕ) → n < m → is_above_arrays t ≡ may_be_within heads s m t n
  more s t zero zero l = absurd (omega arith)
  more s t zero (suc n) l = absurd (omega arith)
  more s t (suc m) zero l = refl
  more s t (suc m) (suc n) l = more s t m n (omega arith)

  alike : (s t : SourceType) (n : ℕ) → may_be_element heads s t ≡ may_be_within heads s n t n
  alike s t zero = refl
  alike s t (suc n) = alike s t n

  pub fewer_dims : (s t : SrcTy) (e : SourceType) → e ≡ element_of (shown s) → s.dims < t.dims → is_above_arrays e ≡ may_be_bounded heads (shown s) (shown t)
  fewer_dims s t e p l = ap is_above_arrays p
      ∙ fewer (element_of (shown s)) (element_of (shown t)) (dims_of (shown s)) (dims_of (shown t)) (omega (arith, shown-dims s, shown-dims t, l))

  pub more_dims : (s t : SrcTy) (f : SourceType) → f ≡ element_of (shown t) → t.dims < s.dims → is_above_arrays f ≡ may_be_bounded heads (shown s) (shown t)
  more_dims s t f q l = ap is_above_arrays q
      ∙ more (element_of (shown s)) (element_of (shown t)) (dims_of (shown s)) (dims_of (shown t)) (omega (arith, shown-dims s, shown-dims t, l))

  pub same_dims : (s t : SrcTy) (e f : SourceType) → e ≡ element_of (shown s) → f ≡ element_of (shown t) → s.dims ≡ t.dims →
      may_be_element heads e f ≡ may_be_bounded heads (shown s) (shown t)
  same_dims s t e f p q d =
      let same : dims_of (shown s) ≡ dims_of (shown t) = omega (arith, shown-dims s, shown-dims t, d) in
      (λ i. may_be_element heads (p i) (q i)) ∙ alike (element_of (shown s)) (element_of (shown t)) (dims_of (shown s))
      ∙ ap (may_be_within heads (element_of (shown s)) (dims_of (shown s)) (element_of (shown t))) same

pub ruleset within = (fewer_dims, more_dims, same_dims)
