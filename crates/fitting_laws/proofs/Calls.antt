-- Calls of methods fit where their parts do.
use Rattle.std.proofs.Common.{◌≡◌, ℕ, suc, ◌+◌, List, [], ◌∷◌, map, Option, Some, None, refl, sym, ap, ◌∙◌, subst, inl, inr, arith}
use Rattle.std.specs.Prelude.{Bool, true, false, not, ◌||◌, if◌then◌else◌}
use Rattle.std.proofs.lemmas.List.Elements.{All-nil}
use Rattle.std.proofs.lemmas.Option.{none-some, same_Some}
use Rattle.je_base.specs.declared.span.NameId.{NameId}
use Rattle.je_base.specs.declared.span.Span.{Span}
use Rattle.je_core.specs.declared.program.Flags.{Flags}
use Rattle.je_core.specs.declared.types.Base.TheVariants as base
use Rattle.je_core.specs.declared.types.Ty.{Ty}
use Rattle.je_core.specs.Core.{Core, CoreForm, CoreProgram, MaybeCore, a_core, no_core, node, ty_of}
use Rattle.je_ast.specs.declared.name.Identifier.{Identifier}
use Rattle.je_classes.specs.Members.{In, first, further}
use Rattle.je_classes.specs.Subtypes.{class_type, is_reference, is_subtype}
use Rattle.je_fitting.specs.Expressions.{Body, Fits, MaybeFits}
use Rattle.je_fitting.specs.Expressions as fits
use Rattle.je_fitting.proofs.Booleans.{is_false, two}
use Rattle.je_scopes.specs.SourceTypes.{SourceType, plain}
use Rattle.plain_programs.specs.Nodes.{every, every_if}
use Rattle.source_types.specs.Erasure.{class_numbered, erased}
use Rattle.source_types.specs.Heads.{ClassHead}
use Rattle.header_typing.specs.Supers.{own_type}
use Rattle.je_typing.specs.declared.fault.TypeRule.TheVariants.{BadOperand, BadSuperCall, NoMethod, StaticContext}
use Rattle.je_typing.specs.Judged.{Judged, bind, check, faulty, gives, need}
use Rattle.je_typing.specs.Typed.{TypedNode}
use Rattle.overriding.specs.Methods.{is_private}
use Rattle.name_typing.specs.Accesses.{has_members, superclass_of}
use Rattle.name_typing.specs.Instances.{has_instance, instance_node, is_instance, this_node}
use Rattle.name_typing.specs.Program.{Frame, Place, Program, frames}
use Rattle.name_typing.specs.Variables.{class_of_frame}
use Rattle.call_typing.specs.Calls.{call_on, call_on_class, call_on_value, class_outwards, exactly, form_on, has_some, is_exact, method_for, passed, receiver, simple_call, simple_form, steps_from, steps_to_method, super_call, type_of, typed_call, virtually}
use Rattle.call_typing.specs.Methods.{candidates, methods_of}
use Rattle.call_typing.specs.Overloads.{Candidate}
use Rattle.typing_laws.specs.Fitting.{Gives, stands_once, with_texts}
use Rattle.typing_laws.proofs.Nodes.{erased-plain}
use Rattle.typing_laws.proofs.Subtypes.{or-left}
use Rattle.fitting_laws.specs.Calls as law
use Rattle.fitting_laws.specs.Calls.{ArgumentsFit, CallsOnFit, ReceiverFits, ReceiversFit, SimpleCallsFit, SuperCallsFit}
use Rattle.fitting_laws.specs.Methods.{HasMethods, IsResult, MethodStands, a_result, no_result}
use Rattle.fitting_laws.specs.Names.{beginning_fits, class_there, value_fits}
use Rattle.fitting_laws.specs.Represented.{IsThere, Represents, StandRound, StandsAt, inside}
use Rattle.fitting_laws.specs.Sound.{IsSound, IsType, SameOrBelow, a_type, of_null, of_void}
use Rattle.fitting_laws.specs.Values.{IsValue}
use Rattle.fitting_laws.proofs.Gives.{behind, behind-check}
use Rattle.fitting_laws.proofs.Accesses.{superclass-below, superclass-sound}
use Rattle.fitting_laws.proofs.Below.{below-below, below-references, subtype-texts}
use Rattle.fitting_laws.proofs.Candidates.{Callable, IsChosen, candidate-callable, chosen-is}
use Rattle.je_classes.proofs.Sets.{by_either}
use Rattle.fitting_laws.proofs.Lists.{in-cases, in-one}
use Rattle.fitting_laws.proofs.Instances.{FitsWith, erased-class-type, instance-fits, own-sound, this-fits}
use Rattle.fitting_laws.proofs.Passed.{EachArgument, Passing, more_values, no_values, passed-fit, passing-agree, passing-fit}
use Rattle.fitting_laws.proofs.Taken.{taken-fits, taken-value}

pub each-argument : (q : CoreProgram) (body : Body) (heads : List ClassHead) (args : List TypedNode) → ArgumentsFit q body heads args → EachArgument q body heads args
each-argument q body heads [] h = no_values
each-argument q body heads (t ∷ ts) h = more_values (h t first) (each-argument q body heads ts (λ u i. h u (further i)))

module _ (p : Program) (q : CoreProgram) (body : Body) (represents : Represents p q) (has : HasMethods p q) where
  -- ---- the node, for a method that may be called

  module _ (t : SourceType) (m : Candidate) (c : Callable p q represents has t m) (args : List TypedNode)
      (passing : Passing q body (passed m.parameters args) (map (erased p.heads) c.declaration.parameters)) (span at : Span) where
    abbrev declared-type : Ty
    declared-type = erased p.heads m.declared

    stands : MethodStands q p.heads m.class m.place c.declaration
    stands = has.methods m.class m.place c.declaration c.there

    given : Passing q body (passed m.parameters args) (has.methods m.class m.place c.declaration c.there).method.params
    given = subst (Passing q body (passed m.parameters args)) (sym (has.methods m.class m.place c.declaration c.there).params) passing

    static-is : (b : Bool) → m.flags.is_static ≡ b → (has.methods m.class m.place c.declaration c.there).method.flags.is_static ≡ b
    static-is b e = ap (λ (f : Flags). f.is_static) ((has.methods m.class m.place c.declaration c.there).flags ∙ sym c.flags) ∙ e

    abstract-is : (b : Bool) → c.declaration.flags.is_abstract ≡ b → (has.methods m.class m.place c.declaration c.there).method.flags.is_abstract ≡ b
    abstract-is b e = ap (λ (f : Flags). f.is_abstract) (has.methods m.class m.place c.declaration c.there).flags ∙ e

    concrete-exact : is_exact m ≡ true → c.declaration.flags.is_abstract ≡ false
    concrete-exact h = has.concrete m.class m.place c.declaration c.there (ap (λ (f : Flags). f.is_static || is_private f.access) (sym c.flags) ∙ h)

    with-type : (form : CoreForm) → ((texts : List (List ℕ)) → every (stands_once texts) (node form declared-type span at) ≡ true
        → Fits (with_texts q texts) body (node form (has.methods m.class m.place c.declaration c.there).method.returns span at)) → fits.are_there q (Rattle.je_typing.specs.Constants.uses_in form) → FitsWith q body (node form declared-type span at) declared-type
    with-type form fit uses = record {
      node = λ texts h. subst (λ (u : Ty). Fits (with_texts q texts) body (node form u span at)) ((has.methods m.class m.place c.declaration c.there).returns ∙ ap (erased p.heads) (sym c.own)) (fit texts h);
      uses = uses;
      type = refl;
    }

    virtual-fits : (o : Core) → ((texts : List (List ℕ)) → every (stands_once texts) o ≡ true → Fits (with_texts q texts) body o) → is_subtype q (ty_of o) (class_type (class_numbered m.class)) ≡ true
        → m.flags.is_static ≡ false → FitsWith q body (node (virtually o m args) declared-type span at) declared-type
    virtual-fits o fit below own = with-type (virtually o m args) (λ texts h.
        let s = has.methods m.class m.place c.declaration c.there in
        let sides = two {a = every (stands_once texts) o} h in
        fits.call_virtual (fit texts sides.0) (subtype-texts q texts (ty_of o) (class_type (class_numbered m.class)) ∙ below) s.there (static-is false own) (s.is_constructor ∙ c.plain)
        (passing-fit q body given texts sides.1) (passing-agree q body given texts)) (All-nil _)

    exact-fits : (o : Core) → ((texts : List (List ℕ)) → every (stands_once texts) o ≡ true → Fits (with_texts q texts) body o) → is_subtype q (ty_of o) (class_type (class_numbered m.class)) ≡ true
        → m.flags.is_static ≡ false → c.declaration.flags.is_abstract ≡ false → FitsWith q body (node (exactly (a_core o) m args) declared-type span at) declared-type
    exact-fits o fit below own concrete = with-type (exactly (a_core o) m args) (λ texts h.
        let s = has.methods m.class m.place c.declaration c.there in
        let sides = two {a = every (stands_once texts) o} h in
        fits.call_exact (fit texts sides.0) (subtype-texts q texts (ty_of o) (class_type (class_numbered m.class)) ∙ below) s.there (static-is false own) (abstract-is false concrete) (s.is_constructor ∙ c.plain)
        (passing-fit q body given texts sides.1) (passing-agree q body given texts)) (All-nil _)

    static-call-fits : (o : MaybeCore) → ((texts : List (List ℕ)) → every_if (stands_once texts) o ≡ true → MaybeFits (with_texts q texts) body (class_numbered m.class) o)
        → m.flags.is_static ≡ true → FitsWith q body (node (exactly o m args) declared-type span at) declared-type
    static-call-fits o fit static = with-type (exactly o m args) (λ texts h.
        let s = has.methods m.class m.place c.declaration c.there in
        let sides = two {a = every_if (stands_once texts) o} h in
        fits.call_static (fit texts sides.0) s.there (static-is true static) (abstract-is false (concrete-exact (or-left m.flags.is_static (is_private m.flags.access) static))) (s.is_constructor ∙ c.plain)
        (passing-fit q body given texts sides.1) (passing-agree q body given texts)) (All-nil _)

    -- on a node
    form-on-fits : (o : Core) → ((texts : List (List ℕ)) → every (stands_once texts) o ≡ true → Fits (with_texts q texts) body o) → is_subtype q (ty_of o) (class_type (class_numbered m.class)) ≡ true
        → FitsWith q body (node (form_on o m args) declared-type span at) declared-type
    form-on-fits o fit below = by m.flags.is_static refl (is_private m.flags.access) refl
      where
        by : (b : Bool) → m.flags.is_static ≡ b → (d : Bool) → is_private m.flags.access ≡ d → FitsWith q body (node (if b || d then exactly (a_core o) m args else virtually o m args) declared-type span at) declared-type
        by true e d k = static-call-fits (a_core o) (λ texts h. fits.something (fit texts h) (subtype-texts q texts (ty_of o) (class_type (class_numbered m.class)) ∙ below)) e
        by false e true k = exact-fits o fit below e (concrete-exact (ap (λ b. b || is_private m.flags.access) e ∙ k))
        by false e false k = virtual-fits o fit below e

    -- the whole call
    call-value : (form : CoreForm) → FitsWith q body (node form declared-type span at) declared-type → IsValue q body p.heads (typed_call p form m at span)
    call-value form fit = by m.result refl c.result
      where
        for : SameOrBelow q (erased p.heads m.result) (erased p.heads m.declared)
        for = subst (λ (u : SourceType). SameOrBelow q (erased p.heads m.result) (erased p.heads u)) (sym c.own) c.result_for

        no-void : {A : Type 0} → is_reference (erased p.heads (plain base.Void 0)) ≡ true → A
        no-void h = let none : false ≡ true = ap is_reference (sym (erased-plain p.heads base.Void)) ∙ h in absurd cc

        void-same : SameOrBelow q (erased p.heads (plain base.Void 0)) (erased p.heads m.declared) → erased p.heads m.declared ≡ erased p.heads (plain base.Void 0)
        void-same (inl e) = sym e
        void-same (inr h) = no-void (below-references q (erased p.heads (plain base.Void 0)) (erased p.heads m.declared) h).0

        by : (u : SourceType) → m.result ≡ u → IsResult q p.heads 255 u → IsValue q body p.heads (typed_call p form m at span)
        by u e (a_result s) = taken-fits q body p.heads represents.heads (record { node = node form (erased p.heads m.declared) span at; type = m.result })
            (record { node = fit.node; uses = fit.uses; below = for; type = subst (IsSound q p.heads 255) (sym e) s })
        by _ e no_result = taken-value q body p.heads (record { node = node form (erased p.heads m.declared) span at; type = m.result })
            (record {
              fits = record { node = fit.node; uses = fit.uses; type = void-same (subst (λ (u : SourceType). SameOrBelow q (erased p.heads u) (erased p.heads m.declared)) e for) ∙ ap (erased p.heads) (sym e) };
              type = subst (IsType q p.heads) (sym e) of_void;
            })

  -- ---- the method that is chosen

  pub record IsFor (t : SourceType) (args : List TypedNode) (m : Candidate) : Type 0 where
    pub callable : Callable p q represents has t m
    pub passing : Passing q body (passed m.parameters args) (map (erased p.heads) callable.declaration.parameters)

  method-for : (place : Place) (t : SourceType) (id : Identifier) (args : List TypedNode) → IsSound q p.heads 255 t → EachArgument q body p.heads args → Gives (IsFor t args) (method_for p place t id args)
  method-for place t id args s vs = by (method_for p place t id args) (chosen-is p.heads p.source.sites place.here.class (candidates p.heads p.classes id.name t) (map type_of args) NoMethod id.span)
    where
      by : (j : Judged Candidate) → Gives (IsChosen p.heads (candidates p.heads p.classes id.name t) (map type_of args)) j → Gives (IsFor t args) j
      by (faulty fault) h = tt
      by (gives m) h =
          let c = candidate-callable p q represents has t id.name m s h.there in
          record { callable = c; passing = passed-fit q body p.heads represents.heads represents.top id.span m.parameters args c.declaration.parameters vs h.accepts c.sound c.parameters }

  -- ---- on a value, on a class

  on-value : (place : Place) (id : Identifier) (span : Span) (args : List TypedNode) (on : TypedNode) → EachArgument q body p.heads args → IsValue q body p.heads on
      → Gives (IsValue q body p.heads) (call_on_value p place id span args on)
  unfolding call_on_value
  on-value place id span args on vs v = behind-check (IsValue q body p.heads) BadOperand id.span (has_members on.type) _ (λ h. by on.type refl v.type h)
    where
      result : (m : Candidate) → IsFor on.type args m → IsValue q body p.heads (typed_call p (form_on on.node m args) m id.span span)
      result m f = call-value on.type m f.callable args f.passing span id.span (form_on on.node m args)
          (form-on-fits on.type m f.callable args f.passing span id.span on.node v.fits.node (ap (λ (u : Ty). is_subtype q u (class_type (class_numbered m.class))) v.fits.type ∙ f.callable.below))

      by : (t : SourceType) → on.type ≡ t → IsType q p.heads t → has_members t ≡ true → Gives (IsValue q body p.heads) (bind (method_for p place on.type id args) (λ m. gives (typed_call p (form_on on.node m args) m id.span span)))
      by t e (a_type s) h = behind (IsFor on.type args) (IsValue q body p.heads) (method_for p place on.type id args) (λ m. gives (typed_call p (form_on on.node m args) m id.span span))
          (method-for place on.type id args (subst (IsSound q p.heads 255) (sym e) s) vs) result
      by _ e of_null h = absurd cc
      by _ e of_void h = absurd cc

  on-class : (place : Place) (id : Identifier) (span : Span) (args : List TypedNode) (c : ℕ) → EachArgument q body p.heads args → IsThere q c → Gives (IsValue q body p.heads) (call_on_class p place id span args c)
  unfolding call_on_class
  on-class place id span args c vs there = behind (IsFor (own_type p.heads c) args) (IsValue q body p.heads) (method_for p place (own_type p.heads c) id args) _
      (method-for place (own_type p.heads c) id args (own-sound q p.heads represents.heads represents.sound c there) vs)
      (λ m f. behind-check (IsValue q body p.heads) StaticContext id.span m.flags.is_static (gives (typed_call p (exactly no_core m args) m id.span span)) (λ e.
      call-value (own_type p.heads c) m f.callable args f.passing span id.span (exactly no_core m args)
      (static-call-fits (own_type p.heads c) m f.callable args f.passing span id.span no_core (λ texts h. fits.nothing) e)))

  -- ---- by a simple name

  steps-class : (x : NameId) (fs : List Frame) (n k : ℕ) → steps_from p x n fs ≡ Some k → ((f : Frame) → In fs f → IsThere q f.class) → (i : ℕ) × (k ≡ i + n) × IsThere q (class_of_frame fs i)
  steps-class x [] n k e h = absurd (none-some k e)
  steps-class x (f ∷ fs) n k e h = by (has_some (methods_of p.heads p.classes x f.class)) (λ r. steps-class x fs (suc n) k r (λ g i. h g (further i))) e
    where
      by : (b : Bool) → (steps_from p x (suc n) fs ≡ Some k → (i : ℕ) × (k ≡ i + suc n) × IsThere q (class_of_frame fs i))
          → (if b then Some n else steps_from p x (suc n) fs) ≡ Some k → (i : ℕ) × (k ≡ i + n) × IsThere q (class_of_frame (f ∷ fs) i)
      by true g r = let is : n ≡ k = same_Some n k r in (0, omega (arith, is), h f first)
      by false g r = let s = g r in (suc s.0, omega (arith, s.1), s.2)

  all-there : (g : Frame) (fs : List Frame) → IsThere q g.class → StandRound p q g.class fs → (f : Frame) → In (g ∷ fs) f → IsThere q f.class
  all-there g [] there round f i = subst (λ (x : Frame). IsThere q x.class) (sym (in-one g f i)) there
  all-there g (h ∷ fs) there (inside next kept round) f i = by_either (λ e. subst (λ (x : Frame). IsThere q x.class) (sym e) there) (λ r. all-there h fs next round f r) (in-cases g f (h ∷ fs) i)

  module _ (place : Place) (stands : StandsAt p q body place) (span : Span) (id : Identifier) (args : List TypedNode) (vs : EachArgument q body p.heads args) where
    abbrev outwards-type : ℕ → SourceType
    outwards-type n = own_type p.heads (class_of_frame (frames place) n)

    simple-fits : (n : ℕ) (m : Candidate) (f : IsFor (outwards-type n) args m) → (m.flags.is_static || has_instance n (frames place)) ≡ true
        → FitsWith q body (node (simple_form p place n id.span m args) (erased p.heads m.declared) span id.span) (erased p.heads m.declared)
    simple-fits n m f h = by m.flags.is_static refl h
      where
        by : (b : Bool) → m.flags.is_static ≡ b → (b || has_instance n (frames place)) ≡ true
            → FitsWith q body (node (if b then exactly no_core m args else form_on (instance_node p place n id.span) m args) (erased p.heads m.declared) span id.span) (erased p.heads m.declared)
        by true e k = static-call-fits (outwards-type n) m f.callable args f.passing span id.span no_core (λ texts h. fits.nothing) e
        by false e k =
            let o = instance-fits p q body place stands id.span n k in
            form-on-fits (outwards-type n) m f.callable args f.passing span id.span (instance_node p place n id.span) o.node
            (ap (λ (u : Ty). is_subtype q u (class_type (class_numbered m.class))) (o.type ∙ sym (erased-class-type q p.heads represents.heads (class_of_frame (frames place) n) _)) ∙ f.callable.below)

    simple : Gives (IsValue q body p.heads) (simple_call p place id span args)
    unfolding simple_call bind need
    simple = by (steps_to_method p place id.name) refl
      where
        result : (n : ℕ) (m : Candidate) (f : IsFor (outwards-type n) args m) → (m.flags.is_static || has_instance n (frames place)) ≡ true → IsValue q body p.heads (typed_call p (simple_form p place n id.span m args) m id.span span)
        result n m f h = call-value (outwards-type n) m f.callable args f.passing span id.span (simple_form p place n id.span m args) (simple-fits n m f h)

        further : (n : ℕ) → IsThere q (class_of_frame (frames place) n)
            → Gives (IsValue q body p.heads) (bind (method_for p place (own_type p.heads (class_outwards place n)) id args) (λ m. bind (check StaticContext id.span (m.flags.is_static || has_instance n (frames place))) (λ u. gives (typed_call p (simple_form p place n id.span m args) m id.span span))))
        further n there = behind (IsFor (outwards-type n) args) (IsValue q body p.heads) (method_for p place (own_type p.heads (class_outwards place n)) id args) _
            (method-for place (outwards-type n) id args (own-sound q p.heads represents.heads represents.sound (class_of_frame (frames place) n) there) vs)
            (λ m f. behind-check (IsValue q body p.heads) StaticContext id.span (m.flags.is_static || has_instance n (frames place)) (gives (typed_call p (simple_form p place n id.span m args) m id.span span)) (λ h. result n m f h))

        by : (o : Option ℕ) → steps_to_method p place id.name ≡ o
            → Gives (IsValue q body p.heads) (bind (need NoMethod id.span o) (λ n. bind (method_for p place (own_type p.heads (class_outwards place n)) id args) (λ m. bind (check StaticContext id.span (m.flags.is_static || has_instance n (frames place))) (λ u. gives (typed_call p (simple_form p place n id.span m args) m id.span span)))))
        by None e = tt
        by (Some n) e =
            let r = steps-class id.name (frames place) 0 n e (all-there place.here place.round stands.there stands.round) in
            let same : r.0 ≡ n = omega (arith, r.1) in
            further n (subst (λ (i : ℕ). IsThere q (class_of_frame (frames place) i)) same r.2)

    -- ---- by `super`

    abbrev above : SourceType
    above = superclass_of p.heads place.here.class

    super-fits : (m : Candidate) (f : IsFor above args m) → is_instance place.here.context ≡ true → m.is_abstract ≡ false
        → FitsWith q body (node (exactly (a_core (this_node place id.span)) m args) (erased p.heads m.declared) span id.span) (erased p.heads m.declared)
    super-fits m f h concrete = by m.flags.is_static refl
      where
        below : is_subtype q (ty_of (this_node place id.span)) (class_type (class_numbered m.class)) ≡ true
        below = below-below q represents.top (class_type (class_numbered place.here.class)) (erased p.heads (superclass_of p.heads place.here.class)) (class_type (class_numbered m.class))
            (superclass-below q p.heads represents.heads represents.sound represents.object place.here.class) f.callable.below

        this-node : FitsWith q body (this_node place id.span) (class_type (class_numbered place.here.class))
        this-node = this-fits p q body place stands id.span (stands.this h)

        by : (b : Bool) → m.flags.is_static ≡ b → FitsWith q body (node (exactly (a_core (this_node place id.span)) m args) (erased p.heads m.declared) span id.span) (erased p.heads m.declared)
        by true e = static-call-fits (superclass_of p.heads place.here.class) m f.callable args f.passing span id.span (a_core (this_node place id.span))
            (λ texts k. fits.something (this-node.node texts k) (subtype-texts q texts (ty_of (this_node place id.span)) (class_type (class_numbered m.class)) ∙ below)) e
        by false e = exact-fits (superclass_of p.heads place.here.class) m f.callable args f.passing span id.span (this_node place id.span) this-node.node below e (f.callable.concrete concrete)

    super : (word : Span) → Gives (IsValue q body p.heads) (super_call p place word id span args)
    unfolding super_call
    super word = behind (IsFor above args) (IsValue q body p.heads) (method_for p place above id args) _
        (method-for place above id args (superclass-sound q p.heads represents.heads represents.sound represents.object place.here.class) vs)
        (λ m f. behind-check (IsValue q body p.heads) StaticContext word (is_instance place.here.context) _ (λ h.
        behind-check (IsValue q body p.heads) BadSuperCall id.span (not m.is_abstract) (gives (typed_call p (exactly (a_core (this_node place id.span)) m args) m id.span span)) (λ k.
        call-value above m f.callable args f.passing span id.span (exactly (a_core (this_node place id.span)) m args) (super-fits m f h (is_false k)))))

module _ (p : Program) (q : CoreProgram) (body : Body) where
  pub receivers_fit : ReceiversFit p q body
  unfolding receiver
  receivers_fit _ (value_fits v) = law.value_fits v
  receivers_fit _ (class_there h) = law.class_there h
  receivers_fit _ beginning_fits = tt

  pub calls_on_fit : CallsOnFit p q body
  unfolding call_on
  calls_on_fit place id span args _ represents has vs (law.value_fits {t = t} v) = on-value p q body represents has place id span args t (each-argument q body p.heads args vs) v
  calls_on_fit place id span args _ represents has vs (law.class_there {c = c} h) = on-class p q body represents has place id span args c (each-argument q body p.heads args vs) h

  pub simple_calls_fit : SimpleCallsFit p q body
  simple_calls_fit place id span args represents has stands vs = simple p q body represents has place stands span id args (each-argument q body p.heads args vs)

  pub super_calls_fit : SuperCallsFit p q body
  super_calls_fit place word id span args represents has stands vs = super p q body represents has place stands span id args (each-argument q body p.heads args vs) word
