-- Results by their erasures: what a method that a class inherits gives, where it stands for an abstract one.
use Rattle.std.proofs.Common.{◌≡◌, ℕ, zero, suc, ◌≤◌, List, refl, sym, ap, ◌∙◌, subst, inl, inr, arith}
use Rattle.std.specs.Prelude.{true, ◌&&◌, ◌⊎◌, nat_eq}
use Rattle.std.proofs.lemmas.Bool.Decides.{nat_tests}
use Rattle.je_core.specs.declared.types.Base.{Base}
use Rattle.je_core.specs.declared.types.Base.TheVariants as base
use Rattle.je_core.specs.declared.types.Ty.{Ty}
use Rattle.je_core.specs.Core.{CoreProgram}
use Rattle.je_classes.specs.Hierarchy.{is_below, object_class, same_class}
use Rattle.je_classes.specs.Subtypes.{are_below, are_components_below, is_base_below, same_base}
use Rattle.je_classes.specs.Subtypes.{is_subtype as is_core_subtype}
use Rattle.je_classes.proofs.Below.{below-from}
use Rattle.je_classes.proofs.Lists.{any-contains, contains-any}
use Rattle.je_classes.proofs.Sets.{by_either}
use Rattle.je_scopes.specs.SourceTypes.{SourceType, no_source_types, plain, same_source_type}
use Rattle.source_types.specs.Erasure.{erased, type}
use Rattle.source_types.specs.Heads.{ClassHead, variable_count}
use Rattle.source_types.specs.Subtypes.{dims_of, is_subtype}
use Rattle.source_types.specs.Supertypes.{supertypes}
use Rattle.source_types.proofs.Above.{Above, above-to, here, up}
use Rattle.source_types.proofs.Same.{and-left, and-right, same-equal, same-refl}
use Rattle.overriding.specs.Methods.{erasure, unbounded}
use Rattle.overriding.specs.Overrides.{element_of_erased, is_erased_below, is_erased_result_for, is_result_for}
use Rattle.typing_laws.specs.Correspondence.{HasHeads}
use Rattle.typing_laws.proofs.Subtypes.{above-below, class-base, contains-none, either, or-left, or-right, parts, subtype-erased, within-class, within-plain}
use Rattle.fitting_laws.specs.Sound.{SameOrBelow}

-- ---- types without arguments

unbounded-dims : (b : Base) (n : ℕ) → dims_of (unbounded b n) ≡ n
unbounded-dims (base.Class c) n = refl
unbounded-dims base.Void n = refl
unbounded-dims base.Bool n = refl
unbounded-dims base.Byte n = refl
unbounded-dims base.Short n = refl
unbounded-dims base.Char n = refl
unbounded-dims base.Int n = refl
unbounded-dims base.Long n = refl
unbounded-dims base.Null n = refl

module _ (heads : List ClassHead) where
  erased-unbounded : (b : Base) (n : ℕ) → erased heads (unbounded b n) ≡ type b n
  unfolding erased
  erased-unbounded (base.Class c) n = within-class heads (variable_count heads) c.0 no_source_types n
  erased-unbounded base.Void n = within-plain heads (variable_count heads) base.Void n
  erased-unbounded base.Bool n = within-plain heads (variable_count heads) base.Bool n
  erased-unbounded base.Byte n = within-plain heads (variable_count heads) base.Byte n
  erased-unbounded base.Short n = within-plain heads (variable_count heads) base.Short n
  erased-unbounded base.Char n = within-plain heads (variable_count heads) base.Char n
  erased-unbounded base.Int n = within-plain heads (variable_count heads) base.Int n
  erased-unbounded base.Long n = within-plain heads (variable_count heads) base.Long n
  erased-unbounded base.Null n = within-plain heads (variable_count heads) base.Null n

  pub erased-once : (t : SourceType) → erased heads (erasure heads t) ≡ erased heads t
  erased-once t = erased-unbounded (erased heads t).base (erased heads t).dims

  erasure-is : (s : SourceType) (b : Base) (n : ℕ) → erasure heads s ≡ unbounded b n → erased heads s ≡ type b n
  erasure-is s b n e = sym (erased-once s) ∙ ap (erased heads) e ∙ erased-unbounded b n

  plain-alone : (b : Base) (s : SourceType) → Above heads (plain b 0) s → s ≡ plain b 0
  plain-alone b _ here = refl
  plain-alone b s (up q r) = absurd (contains-none _ q)

module _ (q : CoreProgram) (heads : List ClassHead) (known : HasHeads q heads) where
  of-plain : (a b : Base) (s : SourceType) → Above heads (plain a 0) s → erased heads (unbounded a 0) ≡ type a 0 → unbounded a 0 ≡ plain a 0 → erased heads s ≡ type b 0 → (a ≡ b) ⊎ (is_base_below q a b ≡ true)
  of-plain a b s way is same e = inl (ap (λ (t : Ty). t.base) (sym is ∙ ap (erased heads) (same ∙ sym (plain-alone heads a s way)) ∙ e))

  base-above : (a b : Base) (s : SourceType) → Above heads (unbounded a 0) s → erased heads s ≡ type b 0 → (a ≡ b) ⊎ (is_base_below q a b ≡ true)
  base-above (base.Class c) b s way e =
      let w = above-below q heads known way c (class-base heads c.0 no_source_types 0) in
      let is : base.Class w.class ≡ b = sym w.is ∙ ap (λ (t : Ty). t.base) e in
      inr (subst (λ (x : Base). is_base_below q (base.Class c) x ≡ true) is (or-right (same_class w.class object_class) (is_below q c w.class) (below-from q w.way)))
  base-above base.Void b s way e = of-plain base.Void b s way (erased-unbounded heads base.Void 0) refl e
  base-above base.Bool b s way e = of-plain base.Bool b s way (erased-unbounded heads base.Bool 0) refl e
  base-above base.Byte b s way e = of-plain base.Byte b s way (erased-unbounded heads base.Byte 0) refl e
  base-above base.Short b s way e = of-plain base.Short b s way (erased-unbounded heads base.Short 0) refl e
  base-above base.Char b s way e = of-plain base.Char b s way (erased-unbounded heads base.Char 0) refl e
  base-above base.Int b s way e = of-plain base.Int b s way (erased-unbounded heads base.Int 0) refl e
  base-above base.Long b s way e = of-plain base.Long b s way (erased-unbounded heads base.Long 0) refl e
  base-above base.Null b s way e = of-plain base.Null b s way (erased-unbounded heads base.Null 0) refl e

  -- ---- arrays of as many dimensions

  components : (a b : Base) (n : ℕ) → is_base_below q a b ≡ true → are_components_below q a n b n ≡ true
  components a b zero h = or-left (is_base_below q a b) (same_base a b) h
  components a b (suc n) h = components a b n h

  arrays : (a b : Base) (n : ℕ) → is_base_below q a b ≡ true → are_below q a n b n ≡ true
  arrays a b zero h = h
  arrays a b (suc n) h = components a b n h

  alike-below : (a b : Base) (m n : ℕ) → m ≡ n → is_base_below q a b ≡ true → is_core_subtype q (type a m) (type b n) ≡ true
  unfolding is_core_subtype
  alike-below a b m n e h = subst (λ (i : ℕ). are_below q a m b i ≡ true) e (arrays a b m h)

  -- ---- the erasures of two results

  dims-few : (t : SourceType) → dims_of t ≤ 255 → dims_of (erasure heads t) ≤ 255
  dims-few t few =
      let same : dims_of (erasure heads t) ≡ dims_of t = unbounded-dims (erased heads t).base (erased heads t).dims ∙ ap (λ (u : Ty). u.dims) (parts heads known.bounds t few) in
      omega (arith, same, few)

  by-types : (t u : SourceType) → dims_of t ≤ 255 → dims_of u ≤ 255 → is_result_for heads (erasure heads t) (erasure heads u) ≡ true → SameOrBelow q (erased heads t) (erased heads u)
  by-types t u m n h = either (SameOrBelow q (erased heads t) (erased heads u)) (same_source_type (erasure heads t) (erasure heads u)) (is_subtype heads (erasure heads t) (erasure heads u)) h
      (λ e. inl (sym (erased-once heads t) ∙ ap (erased heads) (same-equal (erasure heads t) (erasure heads u) e) ∙ erased-once heads u))
      (λ e. inr ((λ i. is_core_subtype q (sym (erased-once heads t) i) (sym (erased-once heads u) i))
      ∙ subtype-erased q heads known (erasure heads t) (erasure heads u) (dims-few t m) (dims-few u n) e))

  by-classes : (t u : SourceType) → (nat_eq (erased heads t).dims (erased heads u).dims && is_erased_below heads (element_of_erased (erased heads t)) (element_of_erased (erased heads u))) ≡ true
      → SameOrBelow q (erased heads t) (erased heads u)
  by-classes t u h =
      let dims = and-left (nat_eq (erased heads t).dims (erased heads u).dims) _ h in
      let same-dims : (erased heads t).dims ≡ (erased heads u).dims = of-test (erased heads t).dims (erased heads u).dims dims in
      let p = contains-any (λ s. same_source_type (erasure heads s) (element_of_erased (erased heads u))) (supertypes heads (element_of_erased (erased heads t))) (and-right (nat_eq (erased heads t).dims (erased heads u).dims) _ h) in
      let way = above-to heads (element_of_erased (erased heads t)) p.element (any-contains (λ v. same_source_type v p.element) (supertypes heads (element_of_erased (erased heads t))) p.element p.there (same-refl p.element)) in
      by_either
      (λ e. inl (λ i. type (e i) (same-dims i)))
      (λ b. inr (alike-below (erased heads t).base (erased heads u).base (erased heads t).dims (erased heads u).dims same-dims b))
      (base-above (erased heads t).base (erased heads u).base p.element way
      (erasure-is heads p.element (erased heads u).base 0 (same-equal (erasure heads p.element) (element_of_erased (erased heads u)) p.passes)))
    where
      of-test : (m n : ℕ) → nat_eq m n ≡ true → m ≡ n
      of-test m n e = grind (arith, nat_tests)

  pub erased-result : (t u : SourceType) → dims_of t ≤ 255 → dims_of u ≤ 255 → is_erased_result_for heads t u ≡ true → SameOrBelow q (erased heads t) (erased heads u)
  erased-result t u m n h = either (SameOrBelow q (erased heads t) (erased heads u)) (is_result_for heads (erasure heads t) (erasure heads u)) _ h (by-types t u m n) (by-classes t u)
