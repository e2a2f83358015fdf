-- Methods that fit bridges for others.
use Rattle.std.proofs.Common.{◌≡◌, ℕ, List, [], ◌∷◌, map, Some, length, refl, sym, ap, ◌∙◌, subst, inl, inr, arith}
use Rattle.std.specs.Prelude.{Bool, true, false, not, ◌&&◌, filter, slice_get}
use Rattle.std.specs.List.{list_any, list_all}
use Rattle.je_base.specs.declared.span.Span.{Span}
use Rattle.je_core.specs.declared.program.Flags.{Flags}
use Rattle.je_core.specs.declared.types.Ty.{Ty}
use Rattle.je_core.specs.Core.{CoreMethod, CoreProgram}
use Rattle.je_classes.specs.Members.{In, first, further, same_name}
use Rattle.je_classes.specs.Subtypes.{is_reference, same_type}
use Rattle.je_classes.specs.Subtypes.{is_subtype as is_core_subtype}
use Rattle.je_classes.proofs.Sets.{by_either, filter-in, in-either, in-right}
use Rattle.je_fitting.specs.Classes.{same_place, same_places}
use Rattle.je_fitting.specs.Members.{results_agree}
use Rattle.je_fitting.specs.Types.{is_primitive}
use Rattle.je_fitting.proofs.Booleans.{both, two, is_false}
use Rattle.je_scopes.specs.SourceTypes.{SourceType, same_source_type}
use Rattle.source_types.specs.Erasure.{erased}
use Rattle.source_types.specs.Heads.{ClassHead}
use Rattle.source_types.proofs.Same.{and-left, and-right, same-equal}
use Rattle.declarations.specs.Declarations.{DeclaredMethod, DeclaredClass}
use Rattle.overriding.specs.Methods.{Method, are_same_types, erasure, have_one_name, have_one_signature, is_subsignature, methods_above, methods_in, own_method, abstract_in, has_within, inherited, inherited_from, is_overridden, joined_over, own, seen_in}
use Rattle.overriding.specs.Overrides.{may_override, overrides_well, same_bool, all_implemented, are_implemented, good_implementations, has_methods, implements, implements_well, is_abstract_class, is_erased_result_for, is_left_abstract}
use Rattle.name_typing.specs.Program.{Program}
use Rattle.typing_laws.specs.Correspondence.{HasHeads}
use Rattle.typing_laws.proofs.Assignments.{agrees-itself}
use Rattle.typing_laws.proofs.Erased.{erased-not-void}
use Rattle.typing_laws.proofs.Subtypes.{either, or-left, or-right}
use Rattle.fitting_laws.specs.Methods.{HasMethods}
use Rattle.fitting_laws.specs.Represented.{IsThere, Represents}
use Rattle.fitting_laws.specs.Sound.{IsSound, SameOrBelow}
use Rattle.fitting_laws.proofs.Below.{below-references}
use Rattle.fitting_laws.proofs.Methods.{StandFor, more_types, no_types}
use Rattle.je_classes.proofs.Lists.{contains-any}
use Rattle.je_typing.specs.Castable.{is_interface}
use Rattle.je_typing.specs.Judged.{gives}
use Rattle.je_typing.specs.declared.fault.TypeRule.TheVariants.{BadOverride, NotAbstract}
use Rattle.fitting_laws.proofs.Lists.{mapped}
use Rattle.override_laws.specs.Inherited.{InheritsWell}
use Rattle.override_laws.specs.Bridging.{BridgesWell, OverridesBridge, InheritedAreImplemented, IsImplemented}
use Rattle.override_laws.specs.Fitting.{IsOfMethod}
use Rattle.override_laws.specs.Laws.{IsGood}
use Rattle.override_laws.proofs.Erasures.{implied, names-swapped, overrides-well, holds}
use Rattle.override_laws.proofs.Inherited.{IsAt, is-at, inherited-seen}
use Rattle.override_laws.proofs.Lists.{all-passes, contained, none-in}
use Rattle.override_laws.proofs.Results.{erased-once, erased-result}
use Rattle.override_laws.proofs.Standing.{both-own, declared-above, declared-result, may-parts, results-stand, sound-not-void, result-dims, same-or-below-stands}

module _ (q : CoreProgram) (heads : List ClassHead) (known : HasHeads q heads) where
  -- ---- parameters of the same places

  both-references : (s u : Ty) → is_reference s ≡ true → is_reference u ≡ true → same_place s u ≡ true
  both-references s u r k = or-right (is_primitive s && same_type s u) (is_reference s && is_reference u) (both r k)

  is-some-place : (t : SourceType) → IsSound q heads 254 t → same_place (erased heads t) (erased heads t) ≡ true
  is-some-place t sound = either (same_place (erased heads t) (erased heads t) ≡ true) (is_primitive (erased heads t) && same_type (erased heads t) (erased heads t)) (is_core_subtype q (erased heads t) (erased heads t))
      (agrees-itself q (erased heads t).base (erased heads t).dims (erased-not-void heads known.bounds t (sound-not-void q heads known sound)))
      (λ h. or-left (is_primitive (erased heads t) && same_type (erased heads t) (erased heads t)) (is_reference (erased heads t) && is_reference (erased heads t)) h)
      (λ h. let r = (below-references q (erased heads t) (erased heads t) h).0 in both-references (erased heads t) (erased heads t) r r)

  -- what two types stand for one type, once erased
  one-place : (u : Ty) (s t : SourceType) → IsSound q heads 254 s → SameOrBelow q u (erased heads s) → SameOrBelow q u (erased heads t) → same_place (erased heads s) (erased heads t) ≡ true
  one-place u s t sound (inl e) (inl f) = subst (λ (x : Ty). same_place (erased heads s) x ≡ true) (sym e ∙ f) (is-some-place s sound)
  one-place u s t sound (inl e) (inr f) =
      let r = below-references q u (erased heads t) f in
      both-references (erased heads s) (erased heads t) (subst (λ (x : Ty). is_reference x ≡ true) e r.0) r.1
  one-place u s t sound (inr e) (inl f) =
      let r = below-references q u (erased heads s) e in
      both-references (erased heads s) (erased heads t) r.1 (subst (λ (x : Ty). is_reference x ≡ true) f r.0)
  one-place u s t sound (inr e) (inr f) = both-references (erased heads s) (erased heads t) (below-references q u (erased heads s) e).1 (below-references q u (erased heads t) f).1

  pub all-places : (us ss ts : List SourceType) → ((s : SourceType) → In ss s → IsSound q heads 254 s) → StandFor q heads us ss → StandFor q heads us ts → same_places (map (erased heads) ss) (map (erased heads) ts) ≡ true
  all-places _ _ _ sound no_types no_types = refl
  all-places _ _ _ sound (more_types {u = u} {t = s} {us = us} {ts = ss} h hs) (more_types {t = t} {ts = ts} k ks) =
      both (one-place (erased heads u) s t (sound s first) h k) (all-places us ss ts (λ x i. sound x (further i)) hs ks)

  -- types that are those of a list, or their erasures, stand for it
  of-same : (ds us ts : List SourceType) → are_same_types ds us ≡ true → StandFor q heads us ts → StandFor q heads ds ts
  of-same [] [] ts e h = h
  of-same [] (u ∷ us) ts e h = absurd cc
  of-same (d ∷ ds) [] ts e h = absurd cc
  of-same (d ∷ ds) (u ∷ us) _ e (more_types {t = t} {ts = ts} h hs) =
      let q-same = two {a = same_source_type d u} {b = are_same_types ds us} e in
      more_types (subst (λ (x : SourceType). SameOrBelow q (erased heads x) (erased heads t)) (sym (same-equal d u q-same.0)) h) (of-same ds us ts q-same.1 hs)

  of-erasures : (us ts : List SourceType) → StandFor q heads us ts → StandFor q heads (map (erasure heads) us) ts
  of-erasures _ _ no_types = no_types
  of-erasures _ _ (more_types {u = u} {t = t} {us = us} {ts = ts} h hs) =
      more_types (subst (λ (x : Ty). SameOrBelow q x (erased heads t)) (sym (erased-once heads u)) h) (of-erasures us ts hs)

  themselves : (ds : List SourceType) → StandFor q heads ds ds
  themselves [] = no_types
  themselves (d ∷ ds) = more_types (inl refl) (themselves ds)

  pub of-subsignature : (m n : Method) (ts : List SourceType) → is_subsignature heads m n ≡ true → StandFor q heads n.parameters ts → StandFor q heads m.parameters ts
  of-subsignature m n ts h stand = either (StandFor q heads m.parameters ts) (have_one_signature m n) (have_one_name m n && are_same_types m.parameters (map (erasure heads) n.parameters)) h
      (λ e. of-same m.parameters n.parameters ts (and-right (have_one_name m n) (are_same_types m.parameters n.parameters) e) stand)
      (λ e. of-same m.parameters (map (erasure heads) n.parameters) ts (and-right (have_one_name m n) (are_same_types m.parameters (map (erasure heads) n.parameters)) e) (of-erasures n.parameters ts stand))

  one-name : (m n : Method) → is_subsignature heads m n ≡ true → have_one_name m n ≡ true
  one-name m n h = either (have_one_name m n ≡ true) (have_one_signature m n) (have_one_name m n && are_same_types m.parameters (map (erasure heads) n.parameters)) h
      (λ e. and-left (have_one_name m n) (are_same_types m.parameters n.parameters) e)
      (λ e. and-left (have_one_name m n) (are_same_types m.parameters (map (erasure heads) n.parameters)) e)

-- ---- what a class declares

module _ (p : Program) (q : CoreProgram) (represents : Represents p q) (has : HasMethods p q) where
  -- what is the same of every method that may override another one
  module _ (c at : ℕ) (d : DeclaredMethod) (e n : ℕ) (f : DeclaredMethod) (m k : CoreMethod) (at-m : IsAt p q represents has c at d m) (at-k : IsAt p q represents has e n f k) (of-m : IsOfMethod q c at d m) (of-k : IsOfMethod q e n f k)
      (one : same_name d.name.name f.name.name ≡ true) (statics : same_bool d.flags.is_static f.flags.is_static ≡ true) (no-hiding : (m.flags.is_static && k.flags.is_static) ≡ false) (concrete : d.flags.is_abstract ≡ false)
      (params : same_places (map (erased p.heads) f.parameters) (map (erased p.heads) d.parameters) ≡ true) (result : results_agree q (erased p.heads d.result) (erased p.heads f.result) ≡ true) where
    own-statics : (d.flags.is_static ≡ false) × (f.flags.is_static ≡ false)
    own-statics = both-own d.flags.is_static f.flags.is_static statics ((λ i. (sym at-m.flags i).is_static && (sym at-k.flags i).is_static) ∙ no-hiding)

    bridges-well : BridgesWell q m k
    bridges-well = record {
      own = ap (λ (x : Flags). x.is_static) at-m.flags ∙ own-statics.0;
      above = ap (λ (x : Flags). x.is_static) at-k.flags ∙ own-statics.1;
      concrete = ap (λ (x : Flags). x.is_abstract) at-m.flags ∙ concrete;
      name = (λ i. same_name (of-k.name i) (of-m.name i)) ∙ names-swapped d.name.name f.name.name one;
      params = (λ i. same_places (at-k.params i) (at-m.params i)) ∙ params;
      result = (λ i. results_agree q (at-m.returns i) (at-k.returns i)) ∙ result;
    }

  declared-params : (c at : ℕ) (d : DeclaredMethod) → slice_get (methods_in (slice_get p.classes c)) at ≡ Some d → (t : SourceType) → In d.parameters t → IsSound q p.heads 254 t
  declared-params c at d declared t i = has.parameters c at d declared t i

  module _ (c at : ℕ) (d : DeclaredMethod) (there : IsThere q c) (declared : slice_get (methods_in (slice_get p.classes c)) at ≡ Some d) (callable : d.is_constructor ≡ false) (good : IsGood p.heads p.classes (own_method c at d)) (concrete : d.flags.is_abstract ≡ false)
      (n : Method) (above : In (methods_above p.heads p.classes c) n) (sub : is_subsignature p.heads (own_method c at d) n ≡ true) (m k : CoreMethod) (of-m : IsOfMethod q c at d m) (of-k : IsOfMethod q n.holder n.place n.declared k)
      (no-hiding : (m.flags.is_static && k.flags.is_static) ≡ false) where
    may : may_override p.heads (own_method c at d) n ≡ true
    may = implied (is_subsignature p.heads (own_method c at d) n) (may_override p.heads (own_method c at d) n)
        (all-passes (overrides_well p.heads (own_method c at d)) (methods_above p.heads p.classes c) n (overrides-well p.heads p.classes (own_method c at d) good) above) sub

    pub bridges : BridgesWell q m k
    bridges =
        let a = declared-above p q represents has c n there above in
        let parts = may-parts p.heads (own_method c at d) n may in
        bridges-well c at d n.holder n.place n.declared m k (is-at p q represents has c at d m declared of-m.there) (is-at p q represents has n.holder n.place n.declared k a.there of-k.there) of-m of-k
        (one-name q p.heads represents.heads (own_method c at d) n sub) parts.alike no-hiding concrete
        (all-places q p.heads represents.heads d.parameters n.declared.parameters d.parameters (declared-params n.holder n.place n.declared a.there)
        (of-subsignature q p.heads represents.heads (own_method c at d) n n.declared.parameters sub a.stand) (themselves q p.heads represents.heads d.parameters))
        (results-stand q p.heads represents.heads represents.top d.result n.result (erased p.heads n.declared.result) (omega arith) (omega arith) (declared-result p q has c at d declared callable) a.result parts.result a.below)

pub overrides_bridge : (p : Program) (q : CoreProgram) → OverridesBridge p q
overrides_bridge p q represents has c at d there declared callable good concrete n above sub m k of-m of-k no-hiding =
    bridges p q represents has c at d there declared callable good concrete n above sub m k of-m of-k no-hiding

-- ---- what a class inherits

some-implements : (heads : List ClassHead) (classes : List DeclaredClass) (c : ℕ) (span : Span) → is_abstract_class (slice_get classes c) ≡ false → all_implemented heads classes c span ≡ gives tt → (n : Method) → In (has_methods heads classes c) n → n.is_abstract ≡ true
    → list_any (λ m. implements m n) (has_methods heads classes c) ≡ true
unfolding all_implemented
some-implements heads classes c span concrete given n there abstract =
    let all = either (are_implemented (has_methods heads classes c) ≡ true) (is_abstract_class (slice_get classes c)) (are_implemented (has_methods heads classes c)) (holds NotAbstract span _ given)
    (λ e. absurd (let no : true ≡ false = sym e ∙ concrete in cc)) (λ e. e) in
    left (n.is_abstract) (list_any (λ m. implements m n) (has_methods heads classes c)) (none-in (is_left_abstract (has_methods heads classes c)) (has_methods heads classes c) n (is_false all) there) abstract
  where
    left : (a b : Bool) → (a && not b) ≡ false → a ≡ true → b ≡ true
    left true true e h = refl
    left true false e h = absurd cc
    left false b e h = absurd cc

-- a class inherits nothing that has the signature of one of its own methods
not-own : (heads : List ClassHead) (classes : List DeclaredClass) (c : ℕ) (m n : Method) → In (own classes c) m → In (inherited heads classes c) n → have_one_signature m n ≡ true → ⊥
unfolding inherited
not-own heads classes c m n own-there there one =
    let a = mapped (abstract_in (is_interface heads c)) (filter (λ k. not (is_overridden heads (own classes c) k)) (joined_over (seen_in (has_within heads classes (length classes))) [] (inherited_from heads c))) n there in
    let passes = (filter-in (λ k. not (is_overridden heads (own classes c) k)) (joined_over (seen_in (has_within heads classes (length classes))) [] (inherited_from heads c)) a.from a.there).passes in
    let none = none-in (λ k. is_subsignature heads k a.from) (own classes c) m (is_false passes) own-there in
    let same = subst (λ (x : Method). have_one_signature m x ≡ true) (sym a.is) one in
    let no : true ≡ false = sym (or-left (have_one_signature m a.from) (have_one_name m a.from && are_same_types m.parameters (map (erasure heads) a.from.parameters)) same) ∙ none in
    absurd cc

module _ (p : Program) (q : CoreProgram) (represents : Represents p q) (has : HasMethods p q) (c : ℕ) (well : InheritsWell p.heads p.classes c) (n : Method) (there : In (inherited p.heads p.classes c) n) where
  module _ (by : Method) (by-there : In (inherited p.heads p.classes c) by) (h : implements by n ≡ true) where
    one-signature : have_one_signature by n ≡ true
    one-signature = and-right (not by.is_abstract && n.is_abstract) (have_one_signature by n) h

    with-body : by.is_abstract ≡ false
    with-body = is_false (and-left (not by.is_abstract) n.is_abstract (and-left (not by.is_abstract && n.is_abstract) (have_one_signature by n) h))

    implements-well-by : implements_well p.heads by n ≡ true
    unfolding good_implementations
    implements-well-by =
        all-passes (implements_well p.heads by) (inherited p.heads p.classes c) n
        (all-passes (λ k. list_all (implements_well p.heads k) (inherited p.heads p.classes c)) (inherited p.heads p.classes c) by (holds BadOverride well.span _ well.implementations) by-there) there

    may-and-result : (may_override p.heads by n && is_erased_result_for p.heads by.declared.result n.declared.result) ≡ true
    may-and-result = implied (implements by n) (may_override p.heads by n && is_erased_result_for p.heads by.declared.result n.declared.result) implements-well-by h

    pub bridges-by : (m k : CoreMethod) → IsOfMethod q by.holder by.place by.declared m → IsOfMethod q n.holder n.place n.declared k → (m.flags.is_static && k.flags.is_static) ≡ false → BridgesWell q m k
    bridges-by m k of-m of-k no-hiding =
        let mine = inherited-seen p q represents has c by by-there in
        let theirs = inherited-seen p q represents has c n there in
        let mine-sound = declared-result p q has by.holder by.place by.declared mine.there mine.plain in
        let theirs-sound = declared-result p q has n.holder n.place n.declared theirs.there theirs.plain in
        bridges-well p q represents has by.holder by.place by.declared n.holder n.place n.declared m k
        (is-at p q represents has by.holder by.place by.declared m mine.there of-m.there) (is-at p q represents has n.holder n.place n.declared k theirs.there of-k.there) of-m of-k
        (and-left (have_one_name by n) (are_same_types by.parameters n.parameters) one-signature)
        (may-parts p.heads by n (and-left (may_override p.heads by n) _ may-and-result)).alike no-hiding (mine.concrete with-body)
        (all-places q p.heads represents.heads by.parameters n.declared.parameters by.declared.parameters (declared-params p q represents has n.holder n.place n.declared theirs.there)
        (of-same q p.heads represents.heads by.parameters n.parameters n.declared.parameters (and-right (have_one_name by n) (are_same_types by.parameters n.parameters) one-signature) theirs.parameters) mine.parameters)
        (same-or-below-stands q p.heads represents.heads by.declared.result (erased p.heads n.declared.result) mine-sound
        (erased-result q p.heads represents.heads by.declared.result n.declared.result
        (result-dims q p.heads represents.heads (omega arith) mine-sound) (result-dims q p.heads represents.heads (omega arith) theirs-sound) (and-right (may_override p.heads by n) _ may-and-result)))

  pub implemented-by : (concrete : is_abstract_class (slice_get p.classes c) ≡ false) (span : Span) → all_implemented p.heads p.classes c span ≡ gives tt → n.is_abstract ≡ true → IsImplemented p q c n
  implemented-by concrete span given abstract =
      let some = contains-any (λ m. implements m n) (has_methods p.heads p.classes c) (some-implements p.heads p.classes c span concrete given n (in-right (own p.classes c) there) abstract) in
      by_either
      (λ i. absurd (not-own p.heads p.classes c some.element n i there (one-of some.element some.passes)))
      (λ i. record { by = some.element; there = i; bridges = bridges-by some.element i some.passes })
      (in-either (own p.classes c) (contained (has_methods p.heads p.classes c) some.element some.there))
    where
      one-of : (m : Method) → implements m n ≡ true → have_one_signature m n ≡ true
      one-of m h = and-right (not m.is_abstract && n.is_abstract) (have_one_signature m n) h

pub inherited_are_implemented : (p : Program) (q : CoreProgram) → InheritedAreImplemented p q
inherited_are_implemented p q represents has c well concrete span given n there abstract =
    implemented-by p q represents has c well n there concrete span given abstract
