-- New objects fit where their arguments, and what they get from round their class, do.
use Rattle.std.proofs.Common.{◌≡◌, ℕ, suc, ◌+◌, List, [], ◌∷◌, map, length, Option, Some, None, refl, sym, ap, ◌∙◌, subst, inl, arith}
use Rattle.std.specs.Prelude.{Bool, true, false, not, ◌||◌, if◌then◌else◌, is_some, slice_get}
use Rattle.std.proofs.lemmas.List.Elements.{All-nil}
use Rattle.je_base.specs.declared.span.Span.{Span}
use Rattle.je_core.specs.declared.program.Sort.{Sort}
use Rattle.je_core.specs.declared.program.Sort.TheVariants as sort
use Rattle.je_core.specs.declared.types.Ty.{Ty}
use Rattle.je_core.specs.Core.{Core, CoreCapture, CoreClass, CoreMethod, CoreProgram, cores, node}
use Rattle.je_core.specs.Core as core
use Rattle.je_classes.specs.Hierarchy.{class_at}
use Rattle.je_classes.specs.Members.{In}
use Rattle.je_classes.specs.Subtypes.{class_type}
use Rattle.je_classes.proofs.Lists.{bool_cases}
use Rattle.je_classes.proofs.Sets.{by_either}
use Rattle.je_fitting.specs.Expressions.{Body, CapturesFit, Fits, can_be_made, is_constructor, is_interface_sort, method_at}
use Rattle.je_fitting.specs.Expressions as fits
use Rattle.je_fitting.proofs.Booleans.{is_false}
use Rattle.je_scopes.specs.Headers.{is_guest, site_at}
use Rattle.je_scopes.specs.Headers as headers
use Rattle.je_scopes.specs.SourceTypes.{SourceType, SourceTypes, plain, of_class, of_variable}
use Rattle.source_types.specs.Erasure.{class_numbered, erased}
use Rattle.source_types.specs.Heads.{object_type}
use Rattle.source_types.specs.Subtypes.{dims_of}
use Rattle.source_types.specs.Substitution.{substituted}
use Rattle.declarations.specs.Declarations.{DeclaredMethod}
use Rattle.header_typing.specs.Supers.{class_in, head_of, is_interface, own_type}
use Rattle.je_typing.specs.Castable.{is_interface_in}
use Rattle.je_typing.specs.declared.fault.TypeRule.TheVariants.{AbstractNew, NoConstructor, NoEnclosing}
use Rattle.je_typing.specs.Judged.{Judged, bind, check, faulty, gives}
use Rattle.je_typing.specs.Typed.{TypedNode}
use Rattle.overriding.specs.Methods.{Method, methods_in, own_method, put_in}
use Rattle.name_typing.specs.Instances.{ty_of_class}
use Rattle.name_typing.specs.Program.{Place, Program, frames}
use Rattle.call_typing.specs.Calls.{passed, type_of}
use Rattle.call_typing.specs.Constructors.{constructor_for, constructors_from, constructors_in, constructors_of, declared_in, default_constructor, default_if, default_place, or_default}
use Rattle.call_typing.specs.Creations.{anonymous_creation, creation, has_constructors, has_enclosing, is_abstract, is_abstract_in, is_enum_in, is_variable, made_of, typed_new}
use Rattle.call_typing.specs.Methods.{candidate_of}
use Rattle.call_typing.specs.Overloads.{Candidate}
use Rattle.typing_laws.specs.Fitting.{Gives}
use Rattle.fitting_laws.specs.Creations.{AnonymousCreationsFit, AnonymousStands, CanBeMade, CreationsFit, HandsOn}
use Rattle.fitting_laws.specs.Methods.{DefaultStands, HasDefault, HasMethods}
use Rattle.fitting_laws.specs.Represented.{HeadStands, IsThere, Represents}
use Rattle.fitting_laws.specs.Sound.{AreSound, IsSound, a_type, sound_class}
use Rattle.fitting_laws.specs.Values.{IsValue}
use Rattle.fitting_laws.proofs.Gives.{behind, behind-check}
use Rattle.fitting_laws.proofs.Accesses.{object-sound}
use Rattle.fitting_laws.proofs.Calls.{each-argument}
use Rattle.fitting_laws.proofs.Candidates.{IsChosen, chosen-is}
use Rattle.fitting_laws.proofs.Captured.{captures-texts}
use Rattle.fitting_laws.proofs.Instances.{erased-class-type, own-sound}
use Rattle.fitting_laws.proofs.Lists.{in-cases, in-one, mapped}
use Rattle.fitting_laws.proofs.Methods.{StandFor, no_types, put-for}
use Rattle.fitting_laws.proofs.Passed.{EachArgument, Passing, passed-fit, passing-agree, passing-fit}
use Rattle.fitting_laws.proofs.Sound.{substituted-put}

-- ---- constructors that a class declares

record Declares (c at : ℕ) (ms : List DeclaredMethod) (m : Method) : Type 0 where
  place : ℕ
  declared : DeclaredMethod
  is : m ≡ own_method c (at + place) declared
  there : slice_get ms place ≡ Some declared
  constructor : declared.is_constructor ≡ true

constructors-from : (c at : ℕ) (ms : List DeclaredMethod) (m : Method) → In (constructors_from c at ms) m → Declares c at ms m
constructors-from c at [] m q = elim q [ ]
constructors-from c at (d ∷ ms) m q = bool_cases (λ b. d.is_constructor ≡ b → In (if b then own_method c at d ∷ constructors_from c (suc at) ms else constructors_from c (suc at) ms) m → Declares c at (d ∷ ms) m) (d.is_constructor)
    (λ _ e r. by_either (λ is. record { place = 0; declared = d; is = is ∙ ap (λ (i : ℕ). own_method c i d) (omega arith); there = refl; constructor = e }) (λ x. later (constructors-from c (suc at) ms m x)) (in-cases (own_method c at d) m (constructors_from c (suc at) ms) r))
    (λ _ e r. later (constructors-from c (suc at) ms m r)) refl q
  where
    later : Declares c (suc at) ms m → Declares c at (d ∷ ms) m
    later o = record { place = suc o.place; declared = o.declared; is = o.is ∙ ap (λ (i : ℕ). own_method c i o.declared) (omega arith); there = o.there; constructor = o.constructor }

map-none : {A B : Type 0} (f : A → B) (xs : List A) → map f xs ≡ [] → xs ≡ []
map-none f [] e = refl
map-none f (x ∷ xs) e = absurd cc

past-end : {A : Type 0} (xs : List A) → slice_get xs (length xs) ≡ None
past-end [] = refl
past-end (x ∷ xs) = past-end xs

module _ (p : Program) (q : CoreProgram) (represents : Represents p q) (has : HasMethods p q) where
  -- a constructor that a creation may choose, and the types that its class declares of its parameters
  pub record Buildable (c : ℕ) (m : Candidate) : Type 0 where
    pub class : m.class ≡ c
    pub method : CoreMethod
    pub there : method_at q (class_numbered c) m.place ≡ Some method
    pub is_constructor : is_constructor q method ≡ true
    pub types : List SourceType
    pub params : method.params ≡ map (erased p.heads) types
    pub sound : (u : SourceType) → In m.parameters u → IsSound q p.heads 255 u
    pub parameters : StandFor q p.heads m.parameters types
    pub handed : (ts : List Ty) → ((d : DeclaredMethod) → slice_get (methods_in (slice_get p.classes m.class)) m.place ≡ Some d → ts ≡ map (erased p.heads) d.parameters)
        → (slice_get (methods_in (slice_get p.classes m.class)) m.place ≡ None → ts ≡ []) → ts ≡ map (erased p.heads) types

  themselves : (ts : List SourceType) → StandFor q p.heads ts ts
  themselves [] = no_types
  themselves (t ∷ ts) = Rattle.fitting_laws.proofs.Methods.more_types (inl refl) (themselves ts)

  declared-buildable : (c n : ℕ) (args : SourceTypes) (k : Method) → AreSound q p.heads 255 c 0 args → Declares c 0 (methods_in (slice_get p.classes c)) k → Buildable c (candidate_of (put_in (of_class c args n) k))
  declared-buildable c n args k given d = subst (λ (x : Method). Buildable c (candidate_of (put_in (of_class c args n) x))) (sym (d.is ∙ ap (λ (i : ℕ). own_method c i d.declared) (let z : 0 + d.place ≡ d.place = omega arith in z))) (record {
    class = refl;
    method = (has.methods c d.place d.declared d.there).method;
    there = (has.methods c d.place d.declared d.there).there;
    is_constructor = (has.methods c d.place d.declared d.there).is_constructor ∙ d.constructor;
    types = d.declared.parameters;
    params = (has.methods c d.place d.declared d.there).params;
    sound = put-sound;
    parameters = put-for p q represents has c args given d.declared.parameters d.declared.parameters (has.parameters c d.place d.declared d.there) (themselves d.declared.parameters);
    handed = λ ts f g. f d.declared d.there;
  })
    where
      put-sound : (u : SourceType) → In (map (substituted c args) d.declared.parameters) u → IsSound q p.heads 255 u
      put-sound u i =
          let m = mapped (substituted c args) d.declared.parameters u i in
          subst (IsSound q p.heads 255) m.is (substituted-put q p.heads represents.heads represents.top c args given (has.parameters c d.place d.declared d.there m.from m.there)).sound

  default-buildable : (c : ℕ) → DefaultStands p q c → Buildable c (default_constructor p.classes c)
  default-buildable c d = record {
    class = refl;
    method = d.method;
    there = d.there;
    is_constructor = d.is_constructor;
    types = [];
    params = d.params;
    sound = λ u i. elim i [ ];
    parameters = no_types;
    handed = λ ts f g. g (past-end (methods_in (slice_get p.classes c)));
  }

  given-of : {c n : ℕ} {args : SourceTypes} → IsSound q p.heads 255 (of_class c args n) → AreSound q p.heads 255 c 0 args
  given-of (sound_class h few given) = given

  or-default-buildable : (c n : ℕ) (args : SourceTypes) (m : Candidate) → HasDefault p q c → AreSound q p.heads 255 c 0 args → (xs : List Candidate) → declared_in p.classes c (of_class c args n) ≡ xs → In (or_default p.source.sites p.classes c xs) m → Buildable c m
  or-default-buildable c n args m default given [] e i = by (is_guest (site_at p.source.sites c).written) refl i
    where
      none : constructors_of p.classes c ≡ []
      none = map-none (put_in (of_class c args n)) (constructors_of p.classes c) (map-none candidate_of (map (put_in (of_class c args n)) (constructors_of p.classes c)) e)

      by : (b : Bool) → is_guest (site_at p.source.sites c).written ≡ b → In (default_if b p.classes c) m → Buildable c m
      by true g r = subst (Buildable c) (sym (in-one (default_constructor p.classes c) m r)) (default-buildable c (default g none))
      by false g r = elim r [ ]
  or-default-buildable c n args m default given (x ∷ xs) e i =
      let a = mapped candidate_of (map (put_in (of_class c args n)) (constructors_of p.classes c)) m (subst (λ (ys : List Candidate). In ys m) (sym e) i) in
      let b = mapped (put_in (of_class c args n)) (constructors_of p.classes c) a.from a.there in
      subst (Buildable c) (ap candidate_of b.is ∙ a.is) (declared-buildable c n args b.from given (constructors-from c 0 (methods_in (slice_get p.classes c)) b.from b.there))

  -- the class of a type
  pub record HasClass (t : SourceType) (m : Candidate) : Type 0 where
    pub class : ℕ
    pub arguments : SourceTypes
    pub dims : ℕ
    pub is : t ≡ of_class class arguments dims
    pub buildable : Buildable class m

  buildable : (t : SourceType) (m : Candidate) → IsSound q p.heads 255 t → ((c : ℕ) → class_in t ≡ Some c → HasDefault p q c) → In (constructors_in p.source.sites p.classes t) m → HasClass t m
  unfolding constructors_in
  buildable (of_class c args n) m s default i = record { class = c; arguments = args; dims = n; is = refl; buildable = or-default-buildable c n args m (default c refl) (given-of s) (declared_in p.classes c (of_class c args n)) refl i }
  buildable (of_variable c at n) m s default i = elim i [ ]
  buildable (plain b n) m s default i = elim i [ ]

  module _ (body : Body) (args : List TypedNode) (vs : EachArgument q body p.heads args) where
    pub record IsBuilt (t : SourceType) (m : Candidate) : Type 0 where
      pub of : HasClass t m
      pub passing : Passing q body (passed m.parameters args) (map (erased p.heads) of.buildable.types)

    pub constructor-for : (c : ℕ) (t : SourceType) (at : Span) → IsSound q p.heads 255 t → ((c : ℕ) → class_in t ≡ Some c → HasDefault p q c) → Gives (IsBuilt t) (constructor_for p c t at args)
    unfolding constructor_for
    constructor-for c t at s default = by _ (chosen-is p.heads p.source.sites c (constructors_in p.source.sites p.classes t) (map type_of args) NoConstructor at)
      where
        by : (j : Judged Candidate) → Gives (IsChosen p.heads (constructors_in p.source.sites p.classes t) (map type_of args)) j → Gives (IsBuilt t) j
        by (faulty fault) h = tt
        by (gives m) h =
            let b = buildable t m s default h.there in
            record { of = b; passing = passed-fit q body p.heads represents.heads represents.top at m.parameters args b.buildable.types vs h.accepts b.buildable.sound b.buildable.parameters }

    -- ---- the node

    new-fits : (c at : ℕ) (es : List Core) (ts : List Ty) (class : CoreClass) (method : CoreMethod) (captures : List CoreCapture) (word span token : Span) → class_at q (class_numbered c) ≡ Some class → can_be_made class ≡ true
        → method_at q (class_numbered c) at ≡ Some method → is_constructor q method ≡ true → method.params ≡ ts → Passing q body es ts → CapturesFit q body (class_numbered c) captures
        → (t : SourceType) → IsSound q p.heads 255 t → erased p.heads t ≡ class_type (class_numbered c)
        → IsValue q body p.heads (record { node = node (core.New (class_numbered c) at (cores es) captures word) (ty_of_class c) span token; type = t })
    new-fits c at es ts class method captures word span token there made method-there constructor params passing handed t s is = record {
      fits = record {
        node = λ texts h. let given = subst (Passing q body es) (sym params) passing in
            fits.new there made method-there constructor (passing-fit q body given texts h) (passing-agree q body given texts) (captures-texts q texts body (class_numbered c) captures handed);
        uses = All-nil _;
        type = sym is;
      };
      type = a_type s;
    }

    -- ---- kinds

    same-sort : (x : Sort) → is_interface_sort x ≡ headers.is_interface_sort x
    same-sort sort.Interface = refl
    same-sort sort.Class = refl
    same-sort sort.Enum = refl
    same-sort sort.Local = refl
    same-sort sort.Anonymous = refl

    can-be-made : (c : ℕ) (class : CoreClass) (h : HeadStands p.heads c class) → h.head.kind.is_abstract ≡ false → headers.is_interface_sort h.head.kind.sort ≡ false → can_be_made class ≡ true
    can-be-made c class h a i =
        ap not h.is_abstract
        ∙ ap (λ b. not (b || is_interface_sort h.head.kind.sort)) a
        ∙ ap not (same-sort h.head.kind.sort ∙ i)

    made-of : (c n : ℕ) (us : SourceTypes) (class : CoreClass) → class_at q (class_numbered c) ≡ Some class → is_interface p.heads (of_class c us n) ≡ false → is_abstract p (of_class c us n) ≡ false → can_be_made class ≡ true
    made-of c n us class there i a =
        let h = represents.kinds c class there in
        can-be-made c class h (sym (ap is_abstract_in h.there) ∙ a) (sym (ap is_interface_in h.there) ∙ i)

    class-there : (c n : ℕ) (us : SourceTypes) → IsSound q p.heads 255 (of_class c us n) → IsThere q c
    class-there c n us (sound_class h few given) = h

    with-class : {A : Type 0} (c : ℕ) → IsThere q c → ((class : CoreClass) → class_at q (class_numbered c) ≡ Some class → A) → A
    with-class {A = A} c h f = by (class_at q (class_numbered c)) refl h
      where
        by : (o : Option CoreClass) → class_at q (class_numbered c) ≡ o → is_some o ≡ true → A
        by None e k = absurd cc
        by (Some class) e k = f class e

    -- ---- JLS 15.9.3

    module _ (place : Place) (t : SourceType) (word name_span span : Span) (captures : List CoreCapture) (can : CanBeMade p q body captures t) where
      no-interface : has_constructors p t ≡ true → is_interface p.heads t ≡ false
      no-interface h = neither (is_variable t) (is_interface p.heads t) (is_enum_in (head_of p.heads t)) (is_false h)
        where
          neither : (x y z : Bool) → (x || y || z) ≡ false → y ≡ false
          neither false false z e = refl
          neither true y z e = absurd cc
          neither false true z e = absurd cc

      created-in : (c n : ℕ) (us : SourceTypes) (m : Candidate) (b : Buildable c m) → t ≡ of_class c us n → Passing q body (passed m.parameters args) (map (erased p.heads) b.types) → is_interface p.heads t ≡ false → is_abstract p t ≡ false
          → IsValue q body p.heads (typed_new m.class m.place t word name_span span m args captures)
      created-in c n us m b is passing i a =
          let sound = subst (IsSound q p.heads 255) is can.sound in
          let flat : n ≡ 0 = sym (ap dims_of is) ∙ can.flat in
          let erased-is : erased p.heads t ≡ class_type (class_numbered c) = ap (erased p.heads) (is ∙ ap (λ (d : ℕ). of_class c us d) flat) ∙ erased-class-type q p.heads represents.heads c us in
          subst (λ (d : ℕ). IsValue q body p.heads (typed_new d m.place t word name_span span m args captures)) (sym b.class)
          (with-class c (class-there c n us sound) (λ class there.
          new-fits c m.place (passed m.parameters args) (map (erased p.heads) b.types) class b.method captures word span name_span there
          (made-of c n us class there (sym (ap (is_interface p.heads) is) ∙ i) (sym (ap (is_abstract p) is) ∙ a)) b.there b.is_constructor b.params passing (can.handed_over c (ap class_in is)) t can.sound erased-is))

      created : (m : Candidate) → IsBuilt t m → is_interface p.heads t ≡ false → is_abstract p t ≡ false → IsValue q body p.heads (typed_new m.class m.place t word name_span span m args captures)
      created m b i a = created-in b.of.class b.of.dims b.of.arguments m b.of.buildable b.of.is b.passing i a

      creations : Gives (IsValue q body p.heads) (creation p place t word name_span span args captures)
      unfolding creation
      creations = behind-check (IsValue q body p.heads) AbstractNew name_span (has_constructors p t) _ (λ h.
          behind (IsBuilt t) (IsValue q body p.heads) (constructor_for p place.here.class t name_span args) _
          (constructor-for place.here.class t name_span can.sound (λ c e. can.default c e (no-interface h)))
          (λ m b. behind-check (IsValue q body p.heads) AbstractNew name_span (not (is_abstract p t)) _ (λ k.
          behind-check (IsValue q body p.heads) NoEnclosing name_span (has_enclosing p t (frames place)) (gives (typed_new m.class m.place t word name_span span m args captures)) (λ g.
          created m b (no-interface h) (is_false k)))))

    -- ---- JLS 15.9.5

    made-sound : (t : SourceType) → IsSound q p.heads 255 t → IsSound q p.heads 255 (made_of p t)
    made-sound t s = by (is_interface p.heads t)
      where
        by : (b : Bool) → IsSound q p.heads 255 (if b then object_type else t)
        by true = object-sound q p.heads represents.heads represents.sound represents.object
        by false = s

    module _ (place : Place) (c : ℕ) (t : SourceType) (word name_span span : Span) (captures : List CoreCapture) (stands : AnonymousStands p q c) (sound : IsSound q p.heads 255 t)
        (default : (d : ℕ) → class_in (made_of p t) ≡ Some d → HasDefault p q d)
        (hands : (m : Candidate) → constructor_for p place.here.class (made_of p t) name_span args ≡ gives m → HandsOn p q c m) (handed : CapturesFit q body (class_numbered c) captures) where
      anonymous-of : (m : Candidate) → constructor_for p place.here.class (made_of p t) name_span args ≡ gives m → IsBuilt (made_of p t) m
          → IsValue q body p.heads (typed_new c (default_place p.classes c) (own_type p.heads c) word name_span span m args captures)
      anonymous-of m e b =
          let h = hands m e in
          new-fits c (default_place p.classes c) (passed m.parameters args) (map (erased p.heads) b.of.buildable.types) stands.class h.method captures word span name_span stands.there stands.made
          h.there h.is_constructor (b.of.buildable.handed h.method.params (λ d k. h.declared d k) (λ k. h.default k)) b.passing handed (own_type p.heads c)
          (own-sound q p.heads represents.heads represents.sound c (ap is_some stands.there)) (erased-class-type q p.heads represents.heads c _)

      anonymous : Gives (IsValue q body p.heads) (anonymous_creation p place c t word name_span span args captures)
      unfolding anonymous_creation bind
      anonymous = behind-check (IsValue q body p.heads) AbstractNew name_span (not (is_variable t)) _ (λ h.
          by (constructor_for p place.here.class (made_of p t) name_span args) refl (constructor-for place.here.class (made_of p t) name_span (made-sound t sound) default))
        where
          by : (j : Judged Candidate) → constructor_for p place.here.class (made_of p t) name_span args ≡ j → Gives (IsBuilt (made_of p t)) j
              → Gives (IsValue q body p.heads) (bind j (λ m. bind (check NoEnclosing name_span (has_enclosing p t (frames place))) (λ u. gives (typed_new c (default_place p.classes c) (own_type p.heads c) word name_span span m args captures))))
          by (faulty fault) e b = tt
          by (gives m) e b = behind-check (IsValue q body p.heads) NoEnclosing name_span (has_enclosing p t (frames place)) (gives (typed_new c (default_place p.classes c) (own_type p.heads c) word name_span span m args captures)) (λ g. anonymous-of m e b)

module _ (p : Program) (q : CoreProgram) (body : Body) where
  pub creations_fit : CreationsFit p q body
  creations_fit place t word name_span span args captures represents has can vs = creations p q represents has body args (each-argument q body p.heads args vs) place t word name_span span captures can

  pub anonymous_creations_fit : AnonymousCreationsFit p q body
  anonymous_creations_fit place c t word name_span span args captures represents has stands sound default hands handed vs =
      anonymous p q represents has body args (each-argument q body p.heads args vs) place c t word name_span span captures stands sound default hands handed
