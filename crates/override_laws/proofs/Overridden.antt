-- All that a method of the core program overrides by its erased signature.
use Rattle.std.proofs.Common.{◌≡◌, ℕ, ◌+◌, ◌<◌, List, [], ◌∷◌, map, take, Some, refl, sym, ap, ◌∙◌, subst, arith}
use Rattle.std.specs.Prelude.{Bool, true, false, not, ◌&&◌, filter, nat_eq, nat_lt, slice_get}
use Rattle.std.proofs.lemmas.Bool.Decides.{nat_tests}
use Rattle.std.proofs.lemmas.Option.{same_Some}
use Rattle.je_core.specs.declared.program.Access.{Access}
use Rattle.je_core.specs.declared.program.Access.TheVariants as access
use Rattle.je_core.specs.declared.program.Flags.{Flags}
use Rattle.je_core.specs.declared.types.ClassId.{ClassId}
use Rattle.je_core.specs.declared.types.Ty.{Ty}
use Rattle.je_core.specs.Core.{CoreMethod, CoreProgram}
use Rattle.je_classes.specs.Dispatch.{same_signature}
use Rattle.je_classes.specs.Hierarchy.{Below, same, above}
use Rattle.je_classes.specs.Members.{In, is_private_access}
use Rattle.je_classes.specs.Subtypes.{same_type, same_types}
use Rattle.je_classes.proofs.Below.{below-to, same_class-equal}
use Rattle.je_classes.proofs.Lists.{bool_cases, contains-any}
use Rattle.je_classes.proofs.Same.{same_type-equal, same_type-refl}
use Rattle.je_classes.proofs.Sets.{in-filter, in-left}
use Rattle.je_fitting.specs.Expressions.{is_constructor, method_at}
use Rattle.je_fitting.specs.Members.{IsOverridden, StandsFor, results_agree}
use Rattle.je_fitting.proofs.Booleans.{both, two}
use Rattle.je_scopes.specs.Headers.{same_name}
use Rattle.je_scopes.specs.SourceTypes.{SourceType, SourceTypes, no_source_types, of_class, same_source_type}
use Rattle.source_types.specs.Erasure.{class_numbered, erased}
use Rattle.source_types.specs.Heads.{supers_of}
use Rattle.source_types.specs.Laws.{IsAcyclic}
use Rattle.source_types.specs.Substitution.{all_substituted, substituted}
use Rattle.source_types.specs.Supertypes.{directly_above, supertypes}
use Rattle.source_types.proofs.Above.{Above, above-from, here, up}
use Rattle.source_types.proofs.Same.{same-equal}
use Rattle.declarations.specs.Declarations.{DeclaredMethod}
use Rattle.header_typing.specs.Supers.{own_type}
use Rattle.je_typing.specs.Castable.{is_interface}
use Rattle.overriding.specs.Methods.{Method, is_another_class, is_inheritable, is_private, methods_above, methods_in, object_for, own, own_method, put_in, seen_in, types_above}
use Rattle.overriding.specs.Overrides.{have_one_erasure, own_before}
use Rattle.name_typing.specs.Program.{Program}
use Rattle.fitting_laws.specs.Methods.{HasMethods}
use Rattle.fitting_laws.specs.Represented.{IsThere, Represents}
use Rattle.fitting_laws.proofs.Lists.{contains-in}
use Rattle.override_laws.specs.Fitting.{AreGood, HasNoOthers, IsOfMethod, MethodsOverrideWell}
use Rattle.override_laws.proofs.Erasures.{names-swapped, own_erasures_differ}
use Rattle.override_laws.proofs.Lists.{contained, in-flat, in-map, taken}
use Rattle.override_laws.proofs.Standing.{declared-result, own-in, own-there, result-itself, overrides_stand}

-- ---- signatures, the other way round

types-swapped : (ts us : List Ty) → same_types ts us ≡ true → same_types us ts ≡ true
types-swapped [] [] e = refl
types-swapped [] (u ∷ us) e = absurd cc
types-swapped (t ∷ ts) [] e = absurd cc
types-swapped (t ∷ ts) (u ∷ us) e =
    let q = two {a = same_type t u} {b = same_types ts us} e in
    both (subst (λ (x : Ty). same_type x t ≡ true) (same_type-equal t u q.0) (same_type-refl t)) (types-swapped ts us q.1)

signatures-swapped : (m k : CoreMethod) → same_signature m k ≡ true → same_signature k m ≡ true
signatures-swapped m k e =
    let q = two {a = same_name m.name k.name} {b = same_types m.params k.params} e in
    both (names-swapped m.name k.name q.0) (types-swapped m.params k.params q.1)

inheritable : (a : Access) → is_private_access a ≡ false → not (is_private a) ≡ true
inheritable access.Public e = refl
inheritable access.Protected e = refl
inheritable access.Package e = refl
inheritable access.Private e = absurd cc
inheritable access.Hidden e = refl

abbrev pub arguments_in : SourceType → SourceTypes
arguments_in (of_class c args n) = args
arguments_in t = no_source_types

module _ (p : Program) (q : CoreProgram) (has : HasMethods p q) (others : HasNoOthers p q) where
  -- ---- a method of the core program and its declaration

  pub record Known (c : ClassId) (at : ℕ) (k : CoreMethod) : Type 0 where
    pub method : DeclaredMethod
    pub there : slice_get (methods_in (slice_get p.classes c.0)) at ≡ Some method
    pub of : IsOfMethod q c.0 at method k
    pub plain : method.is_constructor ≡ false
    pub params : k.params ≡ map (erased p.heads) method.parameters
    pub returns : k.returns ≡ erased p.heads method.result
    pub flags : k.flags ≡ method.flags

  pub known : (c : ClassId) (at : ℕ) (k : CoreMethod) → method_at q c at ≡ Some k → is_constructor q k ≡ false → Known c at k
  known c at k there plain =
      let d = others.methods c at k there plain in
      let s = has.methods c.0 at d.method d.there in
      let is : s.method ≡ k = same_Some s.method k (sym s.there ∙ there) in
      record {
        method = d.method;
        there = d.there;
        of = record { there = there; name = d.name };
        plain = sym s.is_constructor ∙ ap (is_constructor q) is ∙ plain;
        params = ap (λ (x : CoreMethod). x.params) (sym is) ∙ s.params;
        returns = ap (λ (x : CoreMethod). x.returns) (sym is) ∙ s.returns;
        flags = ap (λ (x : CoreMethod). x.flags) (sym is) ∙ s.flags;
      }

  one-erasure : {c e : ClassId} {at n : ℕ} {m k : CoreMethod} (a : Known c at m) (b : Known e n k) → same_signature m k ≡ true → have_one_erasure p.heads a.method b.method ≡ true
  one-erasure a b h = (λ i. same_name (sym a.of.name i) (sym b.of.name i) && same_types (sym a.params i) (sym b.params i)) ∙ h

  -- ---- ways upwards

  pub record TypeAbove (c : ℕ) (args : SourceTypes) (e : ClassId) : Type 0 where
    pub arguments : SourceTypes
    pub way : Above p.heads (of_class c args 0) (of_class e.0 arguments 0)

  pub climb : {c e : ClassId} → Below q c e → (args : SourceTypes) → TypeAbove c.0 args e
  climb same args = record { arguments = args; way = here }
  climb (above {c = c} {e = e} i r) args =
      let s = others.supers c.0 e i in
      let next = climb r (all_substituted c.0 args s.arguments) in
      let step = in-map (substituted c.0 args) (supers_of p.heads c.0) (of_class e.0 s.arguments 0) (contained (supers_of p.heads c.0) (of_class e.0 s.arguments 0) s.there) in
      record { arguments = next.arguments; way = up (contains-in (directly_above p.heads (of_class c.0 args 0)) (of_class e.0 (all_substituted c.0 args s.arguments) 0) step) next.way }

  way-in : IsAcyclic p.heads → (t u : SourceType) → Above p.heads t u → In (supertypes p.heads t) u
  way-in acyclic t u w =
      let r = contains-any (λ v. same_source_type v u) (supertypes p.heads t) (above-from p.heads acyclic t u w) in
      subst (λ (v : SourceType). In (supertypes p.heads t) v) (same-equal r.element u r.passes) (contained (supertypes p.heads t) r.element r.there)

  module _ (c : ℕ) (e : ClassId) (n : ℕ) (k : CoreMethod) (b : Known e n k) (acyclic : IsAcyclic p.heads) (below : Below q (class_numbered c) e) (other : nat_eq c e.0 ≡ false) (seen : is_private_access k.flags.access ≡ false) where
    pub type : TypeAbove c (arguments_in (own_type p.heads c)) e
    type = climb below (arguments_in (own_type p.heads c))

    abbrev pub as-above : Method
    as-above = put_in (of_class e.0 type.arguments 0) (own_method e.0 n b.method)

    type-in : In (types_above p.heads c) (of_class e.0 type.arguments 0)
    type-in = in-left (object_for (is_interface p.heads c)) (in-filter (is_another_class c) (way-in acyclic (own_type p.heads c) (of_class e.0 type.arguments 0) type.way) (ap not other))

    method-in : In (seen_in (own p.classes) (of_class e.0 type.arguments 0)) as-above
    method-in = in-map (put_in (of_class e.0 type.arguments 0)) (filter is_inheritable (own p.classes e.0)) (own_method e.0 n b.method)
        (in-filter is_inheritable (own-in p q has e.0 n b.method b.there b.plain) (inheritable b.method.flags.access (ap (λ (x : Flags). is_private_access x.access) (sym b.flags) ∙ seen)))

    pub is-above : In (methods_above p.heads p.classes c) as-above
    unfolding methods_above
    is-above = in-flat (seen_in (own p.classes)) (types_above p.heads c) (of_class e.0 type.arguments 0) as-above type-in method-in

  -- ---- in the class itself

  module _ (c at n : ℕ) (m k : CoreMethod) (a : Known (class_numbered c) at m) (b : Known (class_numbered c) n k) (good : AreGood p c) (alike : same_signature m k ≡ true) where
    none-before : (first-place place : ℕ) (d e : DeclaredMethod) → slice_get (methods_in (slice_get p.classes c)) first-place ≡ Some d → d.is_constructor ≡ false → slice_get (methods_in (slice_get p.classes c)) place ≡ Some e → e.is_constructor ≡ false
        → have_one_erasure p.heads e d ≡ true → first-place < place → ⊥
    none-before i j d e there plain later later-plain h lt =
        let i-place : 0 + i ≡ i = omega arith in
        let before = subst (λ (x : ℕ). In (own_before p.classes (own_method c j e)) (own_method c x d)) i-place
        (own-there c 0 i (take j (methods_in (slice_get p.classes c))) d (taken (methods_in (slice_get p.classes c)) j i lt ∙ there) plain) in
        let none = own_erasures_differ p.heads p.classes (own_method c j e) (own_method c i d) (good j e later later-plain) before in
        let no : true ≡ false = sym h ∙ none in absurd cc

    pub one-place : n ≡ at
    one-place = bool_cases (λ x. n ≡ at) (nat_lt n at)
        (λ h. absurd (none-before n at b.method a.method b.there b.plain a.there a.plain (one-erasure a b alike) (lt-of n at h)))
        (λ h. bool_cases (λ x. n ≡ at) (nat_lt at n)
        (λ l. absurd (none-before at n a.method b.method a.there a.plain b.there b.plain (one-erasure b a (signatures-swapped m k alike)) (lt-of at n l)))
        (λ l. equal-of n at h l))
      where
        lt-of : (i j : ℕ) → nat_lt i j ≡ true → i < j
        lt-of i j h = grind (arith, nat_tests)

        equal-of : (i j : ℕ) → nat_lt i j ≡ false → nat_lt j i ≡ false → i ≡ j
        equal-of i j h l = grind (arith, nat_tests)

-- ---- the law

not-static : (b : Bool) → (b && b) ≡ false → b ≡ false
not-static true e = e
not-static false e = refl

module _ (p : Program) (q : CoreProgram) (represents : Represents p q) (has : HasMethods p q) (others : HasNoOthers p q) (c at : ℕ) (m : CoreMethod) (a : Known p q has others (class_numbered c) at m) where
  for-itself : (k : CoreMethod) → m ≡ k → (m.flags.is_static && k.flags.is_static) ≡ false → StandsFor q m k
  for-itself k is h = subst (StandsFor q m) is (record {
    own = own;
    above = own;
    result = ap (λ (t : Ty). results_agree q t t) a.returns ∙ result-itself q p.heads represents.heads a.method.result (declared-result p q has c at a.method a.there a.plain);
  })
    where
      own : m.flags.is_static ≡ false
      own = not-static m.flags.is_static (ap (λ (x : CoreMethod). m.flags.is_static && x.flags.is_static) is ∙ h)

  module _ (there : IsThere q c) (good : AreGood p c) (e : ClassId) (n : ℕ) (k : CoreMethod) (o : IsOverridden q (class_numbered c) m e n k) where
    of-another : IsAcyclic p.heads → nat_eq c e.0 ≡ false → StandsFor q m k
    of-another acyclic other =
        let b = known p q has others e n k o.there o.no_constructor in
        let below = below-to q (class_numbered c) e o.is_above in
        overrides_stand p q represents has c at a.method there a.there a.plain (good at a.method a.there a.plain)
        (as-above p q has others c e n k b acyclic below other o.not_private) (is-above p q has others c e n k b acyclic below other o.not_private)
        m k a.of b.of o.alike o.no_hiding

    of-the-same : e ≡ class_numbered c → StandsFor q m k
    of-the-same is =
        let at-home = subst (λ (x : ClassId). method_at q x n ≡ Some k) is o.there in
        let b = known p q has others (class_numbered c) n k at-home o.no_constructor in
        let place = one-place p q has others c at n m k a b good o.alike in
        for-itself k (same_Some m k (sym a.of.there ∙ ap (method_at q (class_numbered c)) (sym place) ∙ at-home)) o.no_hiding

pub methods_override_well : (p : Program) (q : CoreProgram) → MethodsOverrideWell p q
methods_override_well p q represents has others acyclic c there good at m m-there plain e n k o =
    let a = known p q has others (class_numbered c) at m m-there plain in
    bool_cases (λ x. StandsFor q m k) (nat_eq c e.0)
    (λ h. of-the-same p q represents has others c at m a there good e n k o (sym (same_class-equal (class_numbered c) e h)))
    (λ h. of-another p q represents has others c at m a there good e n k o acyclic h)
