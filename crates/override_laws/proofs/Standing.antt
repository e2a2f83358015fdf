-- Methods of the core program that stand for those that they override.
use Rattle.std.proofs.Common.{◌≡◌, ℕ, zero, suc, ◌+◌, ◌≤◌, List, [], ◌∷◌, Some, refl, sym, ap, ◌∙◌, subst, inr, arith, add-zero}
use Rattle.std.specs.Prelude.{Bool, true, false, not, ◌&&◌, filter, map, nat_le, slice_get, if◌then◌else◌}
use Rattle.std.specs.List.{list_all}
use Rattle.std.proofs.lemmas.Option.{same_Some}
use Rattle.je_core.specs.Core.{CoreMethod, CoreProgram}
use Rattle.je_core.specs.declared.program.Flags.{Flags}
use Rattle.je_core.specs.declared.types.Base.{Base}
use Rattle.je_core.specs.declared.types.Base.TheVariants as base
use Rattle.je_core.specs.declared.types.Ty.{Ty}
use Rattle.je_classes.specs.Dispatch.{same_signature}
use Rattle.je_classes.specs.Hierarchy.{object_class, supers_of}
use Rattle.je_classes.specs.Members.{In, first, further}
use Rattle.je_classes.specs.Subtypes.{same_type, same_types}
use Rattle.je_classes.specs.Subtypes.{is_subtype as is_core_subtype}
use Rattle.je_classes.proofs.Sets.{by_either, filter-in, in-either, in-left}
use Rattle.je_fitting.specs.Members.{StandsFor, results_agree}
use Rattle.je_fitting.specs.Types.{agrees, is_primitive, is_void, void}
use Rattle.je_scopes.specs.Headers.{same_name}
use Rattle.je_scopes.specs.SourceTypes.{SourceType, SourceTypes, of_class, plain, same_source_type}
use Rattle.source_types.specs.Erasure.{erased}
use Rattle.source_types.specs.Heads.{ClassHead, object_type}
use Rattle.source_types.specs.Substitution.{substituted}
use Rattle.source_types.specs.Subtypes.{dims_of, is_subtype}
use Rattle.source_types.specs.Supertypes.{supertypes}
use Rattle.source_types.proofs.Above.{above-to}
use Rattle.source_types.proofs.Same.{and-left, and-right, same-equal, same-refl}
use Rattle.declarations.specs.Declarations.{DeclaredMethod}
use Rattle.header_typing.specs.Supers.{own_type}
use Rattle.je_typing.specs.Castable.{is_interface}
use Rattle.je_typing.specs.Typed.{is_primitive_base, is_void as is_void_source}
use Rattle.overriding.specs.Methods.{Method, has_within, inherited_by, is_another_class, methods_above, methods_in, object_for, own, own_from, own_method, seen_in, types_above}
use Rattle.overriding.specs.Overrides.{have_one_erasure, is_result_for, may_override, may_stand_for, may_throw, rank, same_bool}
use Rattle.name_typing.specs.Program.{Program}
use Rattle.typing_laws.specs.Correspondence.{HasHeads}
use Rattle.typing_laws.proofs.Assignments.{agrees-itself}
use Rattle.typing_laws.proofs.Erased.{erased-not-void}
use Rattle.typing_laws.proofs.Nodes.{erased-plain}
use Rattle.typing_laws.proofs.Subtypes.{either, or-left, or-right, subtype-erased}
use Rattle.fitting_laws.specs.Methods.{HasMethods, IsResult, MethodStands, a_result, no_result}
use Rattle.fitting_laws.specs.Represented.{IsThere, Represents}
use Rattle.fitting_laws.specs.Sound.{AreSound, IsSound, SameOrBelow, sound_class, sound_primitive, sound_variable}
use Rattle.fitting_laws.proofs.Accesses.{object-sound}
use Rattle.fitting_laws.proofs.Below.{same-or-below}
use Rattle.fitting_laws.proofs.Instances.{own-sound}
use Rattle.fitting_laws.proofs.Lists.{in-one}
use Rattle.fitting_laws.proofs.Methods.{StandFor, put-for, put-result, seen-in, within-seen}
use Rattle.fitting_laws.proofs.Sound.{above-sound, sound-dims}
use Rattle.override_laws.specs.Fitting.{IsOfMethod, OverridesStand}
use Rattle.override_laws.specs.Laws.{IsGood}
use Rattle.override_laws.proofs.Erasures.{one_erasure_overrides}
use Rattle.override_laws.proofs.Lists.{any-in, flat-in}

module _ (p : Program) (q : CoreProgram) (represents : Represents p q) (has : HasMethods p q) where
  -- a method that a class above declares, and its declaration
  pub record Above (n : Method) : Type 0 where
    pub there : slice_get (methods_in (slice_get p.classes n.holder)) n.place ≡ Some n.declared
    pub result : IsResult q p.heads 255 n.result
    pub below : SameOrBelow q (erased p.heads n.result) (erased p.heads n.declared.result)
    pub stand : StandFor q p.heads n.parameters n.declared.parameters

  given-of : {c n : ℕ} {args : SourceTypes} → IsSound q p.heads 255 (of_class c args n) → AreSound q p.heads 255 c 0 args
  given-of (sound_class h few given) = given

  above-of : (t : SourceType) (n : Method) → IsSound q p.heads 255 t → In (seen_in (own p.classes) t) n → Above n
  above-of t n sound i =
      let s = seen-in (own p.classes) t n i in
      let within = in-left (inherited_by p.heads p.classes (has_within p.heads p.classes zero) s.class) s.there in
      let known = within-seen p q represents has (suc zero) s.class s.from within in
      let given = given-of (subst (IsSound q p.heads 255) s.is sound) in
      let put = put-result p q represents has s.class s.arguments given s.from.result (has.sound (suc zero) s.class s.from within).result in
      subst Above (sym s.seen) (record {
        there = known.there;
        result = put.0;
        below = same-or-below q represents.top (erased p.heads (substituted s.class s.arguments s.from.result)) (erased p.heads s.from.result) (erased p.heads s.from.declared.result) put.1 known.result;
        stand = put-for p q represents has s.class s.arguments given s.from.parameters s.from.declared.parameters (has.sound (suc zero) s.class s.from within).parameters known.parameters;
      })

  type-sound : (c : ℕ) (t : SourceType) → IsThere q c → In (types_above p.heads c) t → IsSound q p.heads 255 t
  type-sound c t there i = by_either (λ r. of-supers r) (λ r. of-object (is_interface p.heads c) r) (in-either (filter (is_another_class c) (supertypes p.heads (own_type p.heads c))) i)
    where
      of-supers : In (filter (is_another_class c) (supertypes p.heads (own_type p.heads c))) t → IsSound q p.heads 255 t
      of-supers r =
          let among = (filter-in (is_another_class c) (supertypes p.heads (own_type p.heads c)) t r).there in
          above-sound q p.heads represents.heads represents.top represents.sound (above-to p.heads (own_type p.heads c) t (any-in (λ u. same_source_type u t) (supertypes p.heads (own_type p.heads c)) t among (same-refl t)))
          (own-sound q p.heads represents.heads represents.sound c there)

      of-object : (b : Bool) → In (object_for b) t → IsSound q p.heads 255 t
      of-object true r = subst (IsSound q p.heads 255) (sym (in-one object_type t r)) (object-sound q p.heads represents.heads represents.sound represents.object)
      of-object false r = elim r [ ]

  pub declared-above : (c : ℕ) (n : Method) → IsThere q c → In (methods_above p.heads p.classes c) n → Above n
  unfolding methods_above
  declared-above c n there i =
      let f = flat-in (seen_in (own p.classes)) (types_above p.heads c) n i in
      above-of f.one n (type-sound c f.one there f.there) f.has

-- ---- results

primitive-not-void : (b : Base) (n : ℕ) → is_primitive_base b ≡ true → is_void_source (plain b n) ≡ false
primitive-not-void b (suc n) h = refl
primitive-not-void base.Bool zero h = refl
primitive-not-void base.Byte zero h = refl
primitive-not-void base.Short zero h = refl
primitive-not-void base.Char zero h = refl
primitive-not-void base.Int zero h = refl
primitive-not-void base.Long zero h = refl
primitive-not-void base.Null zero h = absurd cc
primitive-not-void base.Void zero h = absurd cc
primitive-not-void (base.Class c) zero h = absurd cc

module _ (q : CoreProgram) (heads : List ClassHead) (known : HasHeads q heads) where
  pub sound-not-void : {most : ℕ} {t : SourceType} → IsSound q heads most t → is_void_source t ≡ false
  sound-not-void (sound_primitive {b = b} {n = n} h few) = primitive-not-void b n h
  sound-not-void (sound_class h few given) = refl
  sound-not-void (sound_variable h few) = refl

  pub result-itself : {most : ℕ} (t : SourceType) → IsResult q heads most t → results_agree q (erased heads t) (erased heads t) ≡ true
  result-itself t (a_result s) =
      or-left (agrees q (erased heads t) (erased heads t)) (is_void (erased heads t) && is_void (erased heads t))
      (agrees-itself q (erased heads t).base (erased heads t).dims (erased-not-void heads known.bounds t (sound-not-void s)))
  result-itself _ no_result =
      ap (λ (u : Ty). results_agree q u u) (erased-plain heads base.Void) ∙ or-right (agrees q void void) (is_void void && is_void void) refl

  pub result-dims : {most : ℕ} {t : SourceType} → most ≤ 255 → IsResult q heads most t → dims_of t ≤ 255
  result-dims m (a_result s) = sound-dims q heads m s
  result-dims m no_result = omega arith

  pub same-or-below-stands : {few : ℕ} (s : SourceType) (v : Ty) → IsResult q heads few s → SameOrBelow q (erased heads s) v → results_agree q (erased heads s) v ≡ true
  same-or-below-stands s v r below = by_either
      (λ e. subst (λ (u : Ty). results_agree q (erased heads s) u ≡ true) e (result-itself s r))
      (λ b. or-left (agrees q (erased heads s) v) (is_void (erased heads s) && is_void v) (or-right (is_primitive (erased heads s) && same_type (erased heads s) v) (is_core_subtype q (erased heads s) v) b)) below

  module _ (top : supers_of q object_class ≡ []) where
    pub results-stand : {few more : ℕ} (s t : SourceType) (v : Ty) → few ≤ 255 → more ≤ 255 → IsResult q heads few s → IsResult q heads more t → is_result_for heads s t ≡ true
        → SameOrBelow q (erased heads t) v → results_agree q (erased heads s) v ≡ true
    results-stand s t v few more r k h below = same-or-below-stands s v r
        (either (SameOrBelow q (erased heads s) v) (same_source_type s t) (is_subtype heads s t) h
        (λ e. subst (λ (u : SourceType). SameOrBelow q (erased heads u) v) (sym (same-equal s t e)) below)
        (λ e. same-or-below q top (erased heads s) (erased heads t) v (inr (subtype-erased q heads known s t (result-dims few r) (result-dims more k) e)) below))

-- ---- what a class declares

pub own-there : (c n at : ℕ) (ms : List DeclaredMethod) (d : DeclaredMethod) → slice_get ms at ≡ Some d → d.is_constructor ≡ false → In (own_from c n ms) (own_method c (n + at) d)
own-there c n at [] d e h = cc
own-there c n zero (x ∷ ms) d e h =
    let same : x ≡ d = same_Some x d e in
    let plain : x.is_constructor ≡ false = ap (λ (m : DeclaredMethod). m.is_constructor) same ∙ h in
    subst (λ (b : Bool). In (if b then own_from c (suc n) ms else own_method c n x ∷ own_from c (suc n) ms) (own_method c (n + 0) d)) (sym plain)
    (subst (λ (m : Method). In (own_method c n x ∷ own_from c (suc n) ms) m) (ap (own_method c n) same ∙ ap (λ (i : ℕ). own_method c i d) (sym (add-zero n))) first)
own-there c n (suc at) (x ∷ ms) d e h =
    let place : suc n + at ≡ n + suc at = omega arith in
    let later = subst (λ (i : ℕ). In (own_from c (suc n) ms) (own_method c i d)) place (own-there c (suc n) at ms d e h) in
    more x.is_constructor later
  where
    more : (b : Bool) → In (own_from c (suc n) ms) (own_method c (n + suc at) d) → In (if b then own_from c (suc n) ms else own_method c n x ∷ own_from c (suc n) ms) (own_method c (n + suc at) d)
    more true i = i
    more false i = further i

module _ (p : Program) (q : CoreProgram) (has : HasMethods p q) where
  pub own-in : (c at : ℕ) (d : DeclaredMethod) → slice_get (methods_in (slice_get p.classes c)) at ≡ Some d → d.is_constructor ≡ false → In (own p.classes c) (own_method c at d)
  own-in c at d there callable =
      let place : 0 + at ≡ at = omega arith in
      subst (λ (x : ℕ). In (own p.classes c) (own_method c x d)) place (own-there c 0 at (methods_in (slice_get p.classes c)) d there callable)

  pub declared-result : (c at : ℕ) (d : DeclaredMethod) → slice_get (methods_in (slice_get p.classes c)) at ≡ Some d → d.is_constructor ≡ false → IsResult q p.heads 254 d.result
  declared-result c at d there callable =
      (has.sound (suc zero) c (own_method c at d) (in-left (inherited_by p.heads p.classes (has_within p.heads p.classes zero) c) (own-in c at d there callable))).result

-- ---- what may override stands for

pub both-own : (a b : Bool) → same_bool a b ≡ true → (a && b) ≡ false → (a ≡ false) × (b ≡ false)
both-own true b e h = absurd cc
both-own false true e h = absurd cc
both-own false false e h = (refl, refl)

pub record MayOverride (heads : List ClassHead) (m n : Method) : Type 0 where
  pub alike : same_bool m.declared.flags.is_static n.declared.flags.is_static ≡ true
  pub result : is_result_for heads m.result n.result ≡ true

pub may-parts : (heads : List ClassHead) (m n : Method) → may_override heads m n ≡ true → MayOverride heads m n
unfolding may_override
may-parts heads m n h =
    let both = and-left (may_stand_for m n && is_result_for heads m.result n.result) (list_all (may_throw heads n.throws) m.throws) h in
    let stands = and-left (may_stand_for m n) (is_result_for heads m.result n.result) both in
    let flags = and-left (not n.declared.flags.is_final && same_bool m.declared.flags.is_static n.declared.flags.is_static) (nat_le (rank m.declared.flags.access) (rank n.declared.flags.access)) stands in
    record {
      alike = and-right (not n.declared.flags.is_final) (same_bool m.declared.flags.is_static n.declared.flags.is_static) flags;
      result = and-right (may_stand_for m n) (is_result_for heads m.result n.result) both;
    }

module _ (p : Program) (q : CoreProgram) (represents : Represents p q) (has : HasMethods p q) (c at : ℕ) (d : DeclaredMethod) (there : IsThere q c) (declared : slice_get (methods_in (slice_get p.classes c)) at ≡ Some d)
    (plain-method : d.is_constructor ≡ false) (good : IsGood p.heads p.classes (own_method c at d)) (n : Method) (above : In (methods_above p.heads p.classes c) n) (m k : CoreMethod)
    (of-m : IsOfMethod q c at d m) (of-k : IsOfMethod q n.holder n.place n.declared k) (alike : same_signature m k ≡ true) (no-hiding : (m.flags.is_static && k.flags.is_static) ≡ false) where
  seen : Above p q represents has n
  seen = declared-above p q represents has c n there above

  mine : MethodStands q p.heads c at d
  mine = has.methods c at d declared

  theirs : MethodStands q p.heads n.holder n.place n.declared
  theirs = has.methods n.holder n.place n.declared seen.there

  is-mine : mine.method ≡ m
  is-mine = same_Some mine.method m (sym mine.there ∙ of-m.there)

  is-theirs : theirs.method ≡ k
  is-theirs = same_Some theirs.method k (sym theirs.there ∙ of-k.there)

  my-params : map (erased p.heads) d.parameters ≡ m.params
  my-params = sym mine.params ∙ ap (λ (x : CoreMethod). x.params) is-mine

  their-params : map (erased p.heads) n.declared.parameters ≡ k.params
  their-params = sym theirs.params ∙ ap (λ (x : CoreMethod). x.params) is-theirs

  one-erasure : have_one_erasure p.heads d n.declared ≡ true
  one-erasure = (λ i. same_name (sym of-m.name i) (sym of-k.name i) && same_types (my-params i) (their-params i)) ∙ alike

  may : MayOverride p.heads (own_method c at d) n
  may = may-parts p.heads (own_method c at d) n (one_erasure_overrides p.heads p.classes (own_method c at d) n good above one-erasure).1

  own-result : IsResult q p.heads 254 d.result
  own-result = declared-result p q has c at d declared plain-method

  statics : (d.flags.is_static ≡ false) × (n.declared.flags.is_static ≡ false)
  statics = both-own d.flags.is_static n.declared.flags.is_static may.alike
      ((λ i. (my-flags i).is_static && (their-flags i).is_static) ∙ no-hiding)
    where
      my-flags : d.flags ≡ m.flags
      my-flags = sym mine.flags ∙ ap (λ (x : CoreMethod). x.flags) is-mine

      their-flags : n.declared.flags ≡ k.flags
      their-flags = sym theirs.flags ∙ ap (λ (x : CoreMethod). x.flags) is-theirs

  pub stands : StandsFor q m k
  stands = record {
    own = ap (λ (x : CoreMethod). x.flags.is_static) (sym is-mine) ∙ ap (λ (x : Flags). x.is_static) mine.flags ∙ statics.0;
    above = ap (λ (x : CoreMethod). x.flags.is_static) (sym is-theirs) ∙ ap (λ (x : Flags). x.is_static) theirs.flags ∙ statics.1;
    result = (λ i. results_agree q (my-result i) (their-result i))
        ∙ results-stand q p.heads represents.heads represents.top d.result n.result (erased p.heads n.declared.result) (omega arith) (omega arith) own-result seen.result may.result seen.below;
  }
    where
      my-result : m.returns ≡ erased p.heads d.result
      my-result = ap (λ (x : CoreMethod). x.returns) (sym is-mine) ∙ mine.returns

      their-result : k.returns ≡ erased p.heads n.declared.result
      their-result = ap (λ (x : CoreMethod). x.returns) (sym is-theirs) ∙ theirs.returns

pub overrides_stand : (p : Program) (q : CoreProgram) → OverridesStand p q
overrides_stand p q represents has c at d there declared plain-method good n above m k of-m of-k alike no-hiding =
    stands p q represents has c at d there declared plain-method good n above m k of-m of-k alike no-hiding
