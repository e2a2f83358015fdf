-- Methods that a class inherits, one with a body beside an abstract one.
use Rattle.std.proofs.Common.{◌≡◌, ℕ, suc, List, map, Option, Some, None, length, refl, sym, ap, ◌∙◌, inl, inr, arith}
use Rattle.std.specs.Prelude.{Bool, true, false, not, ◌&&◌, ◌||◌, ◌⊎◌, nat_eq, slice_get, is_some}
use Rattle.std.specs.List.{list_all}
use Rattle.std.proofs.lemmas.Bool.Decides.{nat_tests}
use Rattle.std.proofs.lemmas.Option.{none-some, same_Some}
use Rattle.je_core.specs.declared.program.Flags.{Flags}
use Rattle.je_core.specs.Core.{CoreClass, CoreMethod, CoreProgram}
use Rattle.je_classes.specs.Dispatch.{same_signature}
use Rattle.je_classes.specs.Hierarchy.{class_at}
use Rattle.je_classes.specs.Members.{In, methods_in as core_methods_in}
use Rattle.je_classes.specs.Subtypes.{same_types}
use Rattle.je_classes.proofs.Lists.{contains-any}
use Rattle.je_classes.proofs.Sets.{in-right}
use Rattle.je_fitting.specs.Expressions.{method_at}
use Rattle.je_fitting.specs.Members.{StandsFor, results_agree}
use Rattle.je_scopes.specs.Headers.{same_name}
use Rattle.source_types.specs.Erasure.{class_numbered, erased}
use Rattle.source_types.specs.Heads.{ClassHead}
use Rattle.source_types.proofs.Same.{and-left, and-right}
use Rattle.declarations.specs.Declarations.{DeclaredClass, DeclaredMethod}
use Rattle.je_typing.specs.declared.fault.TypeRule.TheVariants.{BadOverride, SameErasure}
use Rattle.overriding.specs.Methods.{Method, are_same_types, have_one_signature, inherited, is_same, is_subsignature, methods_above, methods_in, overrides, own, own_method}
use Rattle.overriding.specs.Overrides.{are_alike, good_implementations, no_inherited_clash, clash, clashes, have_one_erasure, implements, implements_well, is_erased_result_for, is_override, is_result_for, may_override}
use Rattle.name_typing.specs.Program.{Program}
use Rattle.typing_laws.proofs.Subtypes.{either}
use Rattle.fitting_laws.specs.Methods.{HasMethods}
use Rattle.fitting_laws.specs.Represented.{IsThere, Represents}
use Rattle.fitting_laws.proofs.Methods.{Seen, within-seen}
use Rattle.override_laws.specs.Fitting.{AreGood, IsOfMethod}
use Rattle.override_laws.specs.Inherited.{ImplementationsStand, InheritsWell}
use Rattle.override_laws.proofs.Erasures.{holds, implied, neither}
use Rattle.override_laws.proofs.Lists.{all-passes, contained, none-in}
use Rattle.override_laws.proofs.Results.{erased-result}
use Rattle.override_laws.proofs.Standing.{both-own, declared-above, declared-result, may-parts, overrides_stand, result-dims, same-or-below-stands}

-- ---- what no clash leaves

forced : (e s x al : Bool) → (((e && not s) && not x) && not al) ≡ false → e ≡ true → s ≡ false → al ≡ false → x ≡ true
forced true false true false h e s al = refl
forced true false false false h e s al = absurd cc
forced true false x true h e s al = absurd cc
forced true true x al h e s q = absurd cc
forced false s x al h e r q = absurd cc

module _ (heads : List ClassHead) (classes : List DeclaredClass) (c : ℕ) (well : InheritsWell heads classes c) (m n : Method) (m-there : In (inherited heads classes c) m) (n-there : In (inherited heads classes c) n)
    (concrete : m.is_abstract ≡ false) (abstract : n.is_abstract ≡ true) (other : is_same m n ≡ false) (one : have_one_erasure heads m.declared n.declared ≡ true) where
  implements-well : implements_well heads m n ≡ true
  unfolding good_implementations
  implements-well =
      all-passes (implements_well heads m) (inherited heads classes c) n
      (all-passes (λ k. list_all (implements_well heads k) (inherited heads classes c)) (inherited heads classes c) m (holds BadOverride well.span _ well.implementations) m-there) n-there

  no-clash : clash heads classes m n ≡ false
  unfolding no_inherited_clash
  no-clash =
      none-in (clash heads classes m) (inherited heads classes c) n
      (none-in (clashes heads classes (inherited heads classes c)) (inherited heads classes c) m (neither _ _ (holds SameErasure well.span _ well.clashes)).0 m-there) n-there

  not-alike : are_alike heads m n ≡ false
  not-alike = ap (λ (b : Bool). ((b && n.is_abstract) && are_same_types m.parameters n.parameters) && (is_result_for heads m.result n.result || is_result_for heads n.result m.result)) concrete

  not-implemented : implements n m ≡ false
  not-implemented = ap (λ (b : Bool). (not b && m.is_abstract) && have_one_signature n m) abstract

  pub data Related : Type 0 where
    it_implements : (may_override heads m n ≡ true) × (is_erased_result_for heads m.declared.result n.declared.result ≡ true) → Related
    it_overrides : overrides heads classes m n ≡ true → Related
    is_overridden : overrides heads classes n m ≡ true → Related

  pub related : Related
  related = either Related (is_override heads classes m n) (is_override heads classes n m)
      (forced (have_one_erasure heads m.declared n.declared) (is_same m n) (is_override heads classes m n || is_override heads classes n m) (are_alike heads m n) no-clash one other not-alike)
      (λ h. either Related (overrides heads classes m n) (implements m n) h
      (λ e. it_overrides e)
      (λ e. let both = implied (implements m n) (may_override heads m n && is_erased_result_for heads m.declared.result n.declared.result) implements-well e in
      it_implements (and-left (may_override heads m n) _ both, and-right (may_override heads m n) _ both)))
      (λ h. either Related (overrides heads classes n m) (implements n m) h
      (λ e. is_overridden e)
      (λ e. absurd (let no : true ≡ false = sym e ∙ not-implemented in cc)))

-- ---- in the core program

pub there-of : (q : CoreProgram) (c n : ℕ) (k : CoreMethod) → method_at q (class_numbered c) n ≡ Some k → IsThere q c
there-of q c n k e = by (class_at q (class_numbered c)) e
  where
    by : (o : Option CoreClass) → slice_get (core_methods_in o) n ≡ Some k → is_some o ≡ true
    by None h = absurd (none-some k h)
    by (Some class) h = refl

pub equal-of : (i j : ℕ) → nat_eq i j ≡ true → i ≡ j
equal-of i j e = grind (arith, nat_tests)

module _ (p : Program) (q : CoreProgram) (represents : Represents p q) (has : HasMethods p q) where
  -- a method that a class inherits
  pub inherited-seen : (c : ℕ) (m : Method) → In (inherited p.heads p.classes c) m → Seen p q represents has c m
  unfolding inherited
  inherited-seen c m i = within-seen p q represents has (suc (length p.classes)) c m (in-right (own p.classes c) i)

  -- a method of the core program, of one that is declared
  pub record IsAt (c n : ℕ) (d : DeclaredMethod) (k : CoreMethod) : Type 0 where
    pub params : k.params ≡ map (erased p.heads) d.parameters
    pub returns : k.returns ≡ erased p.heads d.result
    pub flags : k.flags ≡ d.flags

  pub is-at : (c n : ℕ) (d : DeclaredMethod) (k : CoreMethod) → slice_get (methods_in (slice_get p.classes c)) n ≡ Some d → method_at q (class_numbered c) n ≡ Some k → IsAt c n d k
  is-at c n d k declared there =
      let s = has.methods c n d declared in
      let is : k ≡ s.method = same_Some k s.method (sym there ∙ s.there) in
      record {
        params = ap (λ (x : CoreMethod). x.params) is ∙ s.params;
        returns = ap (λ (x : CoreMethod). x.returns) is ∙ s.returns;
        flags = ap (λ (x : CoreMethod). x.flags) is ∙ s.flags;
      }

  module _ (good : (d : ℕ) → AreGood p d) (c : ℕ) (well : InheritsWell p.heads p.classes c) (m n : Method) (m-there : In (inherited p.heads p.classes c) m) (n-there : In (inherited p.heads p.classes c) n)
      (concrete : m.is_abstract ≡ false) (abstract : n.is_abstract ≡ true) (other : is_same m n ≡ false) (by k : CoreMethod) (of-m : IsOfMethod q m.holder m.place m.declared by) (of-n : IsOfMethod q n.holder n.place n.declared k)
      (alike : same_signature by k ≡ true) (no-hiding : (by.flags.is_static && k.flags.is_static) ≡ false) where
    mine : Seen p q represents has c m
    mine = inherited-seen c m m-there

    theirs : Seen p q represents has c n
    theirs = inherited-seen c n n-there

    at-mine : IsAt m.holder m.place m.declared by
    at-mine = is-at m.holder m.place m.declared by mine.there of-m.there

    at-theirs : IsAt n.holder n.place n.declared k
    at-theirs = is-at n.holder n.place n.declared k theirs.there of-n.there

    one-erasure : have_one_erasure p.heads m.declared n.declared ≡ true
    one-erasure = (λ i. same_name (sym of-m.name i) (sym of-n.name i) && same_types (sym at-mine.params i) (sym at-theirs.params i)) ∙ alike

    statics : may_override p.heads m n ≡ true → (m.declared.flags.is_static ≡ false) × (n.declared.flags.is_static ≡ false)
    statics h = both-own m.declared.flags.is_static n.declared.flags.is_static (may-parts p.heads m n h).alike ((λ i. (sym at-mine.flags i).is_static && (sym at-theirs.flags i).is_static) ∙ no-hiding)

    of-implementing : may_override p.heads m n ≡ true → is_erased_result_for p.heads m.declared.result n.declared.result ≡ true → StandsFor q by k
    of-implementing h r =
        let mine-sound = declared-result p q has m.holder m.place m.declared mine.there mine.plain in
        let theirs-sound = declared-result p q has n.holder n.place n.declared theirs.there theirs.plain in
        record {
          own = ap (λ (x : Flags). x.is_static) at-mine.flags ∙ (statics h).0;
          above = ap (λ (x : Flags). x.is_static) at-theirs.flags ∙ (statics h).1;
          result = (λ i. results_agree q (at-mine.returns i) (at-theirs.returns i))
              ∙ same-or-below-stands q p.heads represents.heads m.declared.result (erased p.heads n.declared.result) mine-sound
              (erased-result q p.heads represents.heads m.declared.result n.declared.result
              (result-dims q p.heads represents.heads (omega arith) mine-sound) (result-dims q p.heads represents.heads (omega arith) theirs-sound) r);
        }

    of-overriding : overrides p.heads p.classes m n ≡ true → StandsFor q by k
    of-overriding h =
        let x = contains-any (λ j. is_same j n && is_subsignature p.heads (own_method m.holder m.place m.declared) j) (methods_above p.heads p.classes m.holder) h in
        let same = and-left (is_same x.element n) _ x.passes in
        let holder : n.holder ≡ x.element.holder = sym (equal-of x.element.holder n.holder (and-left (nat_eq x.element.holder n.holder) (nat_eq x.element.place n.place) same)) in
        let place : n.place ≡ x.element.place = sym (equal-of x.element.place n.place (and-right (nat_eq x.element.holder n.holder) (nat_eq x.element.place n.place) same)) in
        let there = there-of q m.holder m.place by of-m.there in
        let i = contained (methods_above p.heads p.classes m.holder) x.element x.there in
        let a = declared-above p q represents has m.holder x.element there i in
        let declared : n.declared ≡ x.element.declared = same_Some n.declared x.element.declared (sym theirs.there ∙ (λ i. slice_get (methods_in (slice_get p.classes (holder i))) (place i)) ∙ a.there) in
        overrides_stand p q represents has m.holder m.place m.declared there mine.there mine.plain (good m.holder m.place m.declared mine.there mine.plain) x.element i by k of-m
        (record { there = sym (λ i. method_at q (class_numbered (holder i)) (place i)) ∙ of-n.there; name = of-n.name ∙ ap (λ (d : DeclaredMethod). d.name.name) declared })
        alike no-hiding

    pub stands-or-not : StandsFor q by k ⊎ (overrides p.heads p.classes n m ≡ true)
    stands-or-not = of (related p.heads p.classes c well m n m-there n-there concrete abstract other one-erasure)
      where
        of : Related p.heads p.classes c well m n m-there n-there concrete abstract other one-erasure → StandsFor q by k ⊎ (overrides p.heads p.classes n m ≡ true)
        of (it_implements h) = inl (of-implementing h.0 h.1)
        of (it_overrides h) = inl (of-overriding h)
        of (is_overridden h) = inr h

pub implementations_stand : (p : Program) (q : CoreProgram) → ImplementationsStand p q
implementations_stand p q represents has good c well m n m-there n-there concrete abstract other by k of-m of-n alike no-hiding =
    stands-or-not p q represents has good c well m n m-there n-there concrete abstract other by k of-m of-n alike no-hiding
