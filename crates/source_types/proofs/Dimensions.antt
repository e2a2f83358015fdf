-- Subtypes by how many dimensions the two types have.
use Rattle.std.proofs.Common.{◌≡◌, ◌<◌, ℕ, zero, suc, refl, arith}
use Rattle.std.specs.Prelude.{◌||◌, List}
use Rattle.je_scopes.specs.SourceTypes.{SourceType, same_source_type}
use Rattle.source_types.specs.Heads.{ClassHead}
use Rattle.source_types.specs.Subtypes.{dims_of, element_of, is_object, is_null, is_element_below, are_components_below, are_below, is_subtype}

module _ (heads : List ClassHead) (s t : SourceType) where
  components_fewer : (m n : ℕ) → m < n → are_components_below heads s m t n ≡ is_null s
  components_fewer zero zero l = absurd (omega arith)
  components_fewer zero (suc n) l = refl
  components_fewer (suc m) zero l = absurd (omega arith)
  components_fewer (suc m) (suc n) l = components_fewer m n (omega (arith, l))

  components_more : (m n : ℕ) → n < m → are_components_below heads s m t n ≡ is_object t
  components_more zero n l = absurd (omega arith)
  components_more (suc m) zero l = refl
  components_more (suc m) (suc n) l = components_more m n (omega (arith, l))

  components_alike : (m : ℕ) → are_components_below heads s m t m ≡ (is_element_below heads s t || same_source_type s t)
  components_alike zero = refl
  components_alike (suc m) = components_alike m

  fewer_at : (m n : ℕ) → m < n → is_null s ≡ are_below heads s m t n
  fewer_at zero zero l = absurd (omega arith)
  fewer_at zero (suc n) l = refl
  fewer_at (suc m) zero l = absurd (omega arith)
  fewer_at (suc m) (suc n) l = rw (components_fewer m n (omega (arith, l))) refl

  more_at : (m n : ℕ) → n < m → is_object t ≡ are_below heads s m t n
  more_at zero n l = absurd (omega arith)
  more_at (suc m) zero l = refl
  more_at (suc m) (suc n) l = rw (components_more m n (omega (arith, l))) refl

  alike_at : (m : ℕ) → 0 < m → (is_element_below heads s t || same_source_type s t) ≡ are_below heads s m t m
  alike_at zero l = absurd (omega arith)
  alike_at (suc m) l = rw (components_alike m) refl

pub fewer : (heads : List ClassHead) (s t : SourceType) → dims_of s < dims_of t → is_null (element_of s) ≡ is_subtype heads s t
unfolding is_subtype
fewer heads s t l = fewer_at heads (element_of s) (element_of t) (dims_of s) (dims_of t) l

pub more : (heads : List ClassHead) (s t : SourceType) → dims_of t < dims_of s → is_object (element_of t) ≡ is_subtype heads s t
unfolding is_subtype
more heads s t l = more_at heads (element_of s) (element_of t) (dims_of s) (dims_of t) l

pub alike : (heads : List ClassHead) (s t : SourceType) → dims_of s ≡ dims_of t → 0 < dims_of s →
    (is_element_below heads (element_of s) (element_of t) || same_source_type (element_of s) (element_of t)) ≡ is_subtype heads s t
unfolding is_subtype
alike heads s t e l = rw (← e) (alike_at heads (element_of s) (element_of t) (dims_of s) l)

pub elements : (heads : List ClassHead) (s t : SourceType) → dims_of s ≡ 0 → dims_of t ≡ 0 → is_element_below heads (element_of s) (element_of t) ≡ is_subtype heads s t
unfolding is_subtype
elements heads s t e f = rw (e, f) refl
