-- Calls of constructors at the head of one fit (JLS 8.8.7.1).
use Rattle.std.proofs.Common.{◌≡◌, ℕ, List, [], ◌∷◌, ◌++◌, Option, Some, None, refl, sym, ap, ◌∙◌, subst, inl, inr}
use Rattle.std.specs.Prelude.{Bool, true, false, ◌⊎◌, flat_map}
use Rattle.std.proofs.lemmas.Grind.{flat_map-append}
use Rattle.std.proofs.lemmas.Option.{none-some}
use Rattle.je_base.specs.declared.span.NameId.{NameId}
use Rattle.je_base.specs.declared.span.Span.{Span}
use Rattle.je_core.specs.declared.types.ClassId.{ClassId}
use Rattle.je_core.specs.declared.types.Ty.{Ty}
use Rattle.je_core.specs.Core.{Core, CoreMethod, CoreProgram, cores}
use Rattle.je_core.specs.Core as core
use Rattle.je_ast.specs.declared.name.Identifier.{Identifier}
use Rattle.je_ast.specs.Trees.{ConstructorInvocation, Expression, Expressions}
use Rattle.je_ast.specs.Trees as tree
use Rattle.je_classes.specs.Members.{In, first as at_first, further as and_further}
use Rattle.je_classes.proofs.Sets.{by_either, in-left, in-right}
use Rattle.je_fitting.specs.Expressions.{Body, method_at}
use Rattle.je_fitting.specs.Members.{HeadFits, head_call as a_head}
use Rattle.je_fitting.proofs.Booleans.{two}
use Rattle.je_scopes.specs.Looks.{Look, or_further}
use Rattle.je_scopes.specs.Looks as look
use Rattle.je_scopes.specs.Scope.{first_named, in_scope, or_full_name, qualified}
use Rattle.je_scopes.specs.Settled.{settled}
use Rattle.je_scopes.specs.Sites.{constructor_arguments}
use Rattle.je_scopes.specs.SourceTypes.{SourceType}
use Rattle.plain_programs.specs.Nodes.{every}
use Rattle.source_types.specs.Erasure.{class_numbered}
use Rattle.header_typing.specs.Supers.{class_in, own_type}
use Rattle.je_typing.specs.declared.fault.TypeRule.TheVariants.{NoEnclosing}
use Rattle.je_typing.specs.Judged.{gives}
use Rattle.je_typing.specs.Typed.{TypedNode}
use Rattle.name_typing.specs.Accesses.{superclass_of}
use Rattle.name_typing.specs.Instances.{this_node}
use Rattle.name_typing.specs.Program.{Frame, Program}
use Rattle.name_typing.specs.Qualified.{class_named, part_in}
use Rattle.body_types.specs.BodyTypes.{look_at}
use Rattle.call_typing.specs.Calls.{passed}
use Rattle.call_typing.specs.Constructors.{constructor_for}
use Rattle.call_typing.specs.Creations.{has_enclosing, implicit_constructor_call, own_constructor_call, superclass_constructor_call, typed_head}
use Rattle.call_typing.specs.Overloads.{Candidate}
use Rattle.body_typing.specs.Bodies.{Met, Progress, behind as behind-expression, met_by, met_in_expression}
use Rattle.body_typing.specs.Expressions.{Known, expression, read, value, values}
use Rattle.body_typing.specs.FinalVariables.{Scope}
use Rattle.body_typing.specs.Mentions.{all_mentions, mentions}
use Rattle.class_typing.specs.Constructors.{constructor_call, head_call, in_arguments, met_in_head}
use Rattle.typing_laws.specs.Fitting.{Gives, stands_once, with_texts}
use Rattle.fitting_laws.specs.Calls.{ArgumentsFit}
use Rattle.fitting_laws.specs.Methods.{HasMethods}
use Rattle.fitting_laws.specs.Represented.{IsThere, Represents}
use Rattle.fitting_laws.specs.Values.{IsValue}
use Rattle.fitting_laws.proofs.Accesses.{superclass-sound}
use Rattle.fitting_laws.proofs.Calls.{each-argument}
use Rattle.fitting_laws.proofs.Creations.{IsBuilt, constructor-for}
use Rattle.fitting_laws.proofs.Gives.{behind, behind-check}
use Rattle.fitting_laws.proofs.Instances.{own-sound, this-fits}
use Rattle.fitting_laws.proofs.Lists.{in-cases}
use Rattle.fitting_laws.proofs.Passed.{passing-agree, passing-fit}
use Rattle.body_laws.specs.Bodies.{BodyStands, IsAmong, IsInBody}
use Rattle.body_laws.specs.Written.{AllAreWritten, CallIsWritten}
use Rattle.body_laws.proofs.Grows.{Knows}
use Rattle.body_laws.proofs.Values.{Used, under, valued-fits}
use Rattle.body_laws.proofs.Walk.{any}
use Rattle.class_fitting_laws.specs.Classes.{ClassStands, HeadCallsStand}

module _ (p : Program) (k : Known) (q : CoreProgram) (c : ℕ) (round : List Frame) (superclass : Option ClassId) (represents : Represents p q) (has : HasMethods p q) (stands : ClassStands p q c round) (targets : HeadCallsStand p q c superclass) where
  -- ---- there is no object yet in the arguments

  module _ (body : Body) (start s : Scope) (own : s.place.here.class ≡ c) (none : s.place.here.local_classes ≡ []) (h : IsInBody p k q body start s) where
    abbrev seen : ℕ → List ℕ → NameId → Look
    seen d ds x = or_further (first_named p.source x ds) (in_scope p.source (settled p.source) d (part_in constructor_arguments) x)

    same-names : (x : NameId) → seen c [] x ≡ class_named p (in_arguments s).place.here x
    same-names x = ap (λ (d : ℕ). seen d [] x) (sym own) ∙ ap (λ (ds : List ℕ). seen s.place.here.class ds x) (sym none)

    abbrev looked : List Identifier → Look
    looked [] = look.nothing
    looked (i ∷ is) = or_full_name p.source (i ∷ is) (seen c [] i.name) (qualified p.source (settled p.source) (seen c [] i.name) is)

    same-looks : (parts : List Identifier) → looked parts ≡ look_at p (in_arguments s).place.here parts
    same-looks [] = refl
    same-looks (i ∷ is) = ap (λ (l : Look). or_full_name p.source (i ∷ is) l (qualified p.source (settled p.source) l is)) (same-names i.name)

    written-there : (parts : List Identifier) (d : ℕ) → looked parts ≡ look.a_class d → IsThere q d
    written-there [] d e = absurd cc
    written-there (i ∷ is) d e = stands.written constructor_arguments (i ∷ is) d e

    pub in-arguments : IsInBody p k q body (in_arguments start) (in_arguments s)
    in-arguments = record {
      within = record { class = h.within.class; context = refl; initializer = h.within.initializer; round = h.within.round; is_constructor = h.within.is_constructor };
      stands = record {
        place = record {
          class = h.stands.place.class;
          there = h.stands.place.there;
          this = λ e. absurd cc;
          locals = h.stands.place.locals;
          sound = λ f u i m. by_either (λ e. h.stands.place.sound s.place.here u at_first (subst (λ (g : Frame). In g.locals u) e m)) (λ r. h.stands.place.sound f u (and_further r) m) (in-cases (in_arguments s).place.here f s.place.round i);
          round = h.stands.place.round;
          named = λ x d e. stands.named constructor_arguments x d (same-names x ∙ e);
          written = λ parts d e. written-there parts d (same-looks parts ∙ e);
        };
        builds = h.stands.builds;
        starts = h.stands.starts;
      };
    }

  -- ---- arguments

  module _ (body : Body) (start : Scope) (met : List Met) (known : BodyStands p k q body start met) where
    abbrev Passed : Scope → Expressions → List TypedNode → Type 0
    Passed s es ts = IsAmong (flat_map (met_by p s) (all_mentions es)) met × IsInBody p k q body start s → ArgumentsFit q body p.heads ts

    abbrev none-before : Progress
    none-before = record { locals = []; met = [] }

    knows-none : (s : Scope) (e : Expression) → IsAmong (met_in_expression p s e) met → Knows body met (behind-expression p s e none-before)
    knows-none s e among = record { locals = λ n l f. absurd (none-some l f); met = among }

    -- what is met in the first, and in the others
    among-first : (s : Scope) (e : Expression) (es : Expressions) → IsAmong (flat_map (met_by p s) (mentions e ++ all_mentions es)) met → IsAmong (met_in_expression p s e) met
    among-first s e es h m i = h m (subst (λ (ms : List Met). In ms m) (sym (flat_map-append (met_by p s) (mentions e) (all_mentions es))) (in-left _ i))

    among-others : (s : Scope) (e : Expression) (es : Expressions) → IsAmong (flat_map (met_by p s) (mentions e ++ all_mentions es)) met → IsAmong (flat_map (met_by p s) (all_mentions es)) met
    among-others s e es h m i = h m (subst (λ (ms : List Met). In ms m) (sym (flat_map-append (met_by p s) (mentions e) (all_mentions es))) (in-right (flat_map (met_by p s) (mentions e)) i))

    pub arguments-fit : (s : Scope) (es : Expressions) → AllAreWritten es → Gives (Passed s es) (values p k s es)
    arguments-fit s tree.no_expressions lengths = λ h t i. elim i [ ]
    arguments-fit s (tree.more_expressions e es) lengths = behind (λ t. Knows body met (behind-expression p s e none-before) × IsInBody p k q body start s → Used p k q body start met represents has known t) (Passed s (tree.more_expressions e es))
        (value (expression p k s read e)) _ (valued-fits p k q body start met represents has known s e none-before lengths.0)
        (λ t v. behind (Passed s es) (Passed s (tree.more_expressions e es)) (values p k s es) (λ ts. gives (t ∷ ts)) (arguments-fit s es lengths.1)
        (λ ts vs h u i. by_either (λ x. subst (IsValue q body p.heads) (sym x) (v (knows-none s e (among-first s e es h.0), h.1)).0) (λ x. vs (among-others s e es h.0, h.1) u x) (in-cases t u ts i)))

  -- ---- the call

  abbrev pub HeadFitsAs : Body → TypedNode → Type 0
  HeadFitsAs body t = (texts : List (List ℕ)) → every (stands_once texts) t.node ≡ true → HeadFits (with_texts q texts) body superclass t.node

  pub data Heads (body : Body) : List TypedNode → Type 0 where
    no_head : Heads body []
    one_head : {t : TypedNode} → HeadFitsAs body t → Heads body (t ∷ [])

  module _ (body : Body) (start s : Scope) (own : s.place.here.class ≡ c) (h : IsInBody p k q body start s) (instance_body : body.is_static ≡ false) (args : List TypedNode) (fit : ArgumentsFit q body p.heads args) where
    head-node : (word : Span) (t : SourceType) (m : Candidate) → ((d : ℕ) → class_in t ≡ Some d → (class_numbered d ≡ body.class) ⊎ (superclass ≡ Some (class_numbered d))) → IsBuilt p q represents has body args (each-argument q body p.heads args fit) t m
        → HeadFitsAs body (typed_head s.place word word m args)
    head-node word t m near b texts x =
        let object = this-fits p q body s.place h.stands.place word instance_body in
        let parts = two {a = every (stands_once texts) (this_node s.place word)} x in
        let built = b.of.buildable in
        a_head refl (object.node texts parts.0) (subst (λ (d : ℕ). (class_numbered d ≡ body.class) ⊎ (superclass ≡ Some (class_numbered d))) (sym built.class) (near b.of.class (ap class_in b.of.is)))
        (ap (λ (d : ℕ). method_at q (class_numbered d) m.place) built.class ∙ built.there) built.is_constructor (passing-fit q body b.passing texts parts.1)
        (ap (λ (ts : List Ty). Rattle.je_fitting.specs.Types.all_agree (with_texts q texts) (Rattle.je_fitting.specs.Types.types_of (core.list_of (cores (passed m.parameters args)))) ts) built.params ∙ passing-agree q body b.passing texts)

    own-call : (word : Span) → Gives (HeadFitsAs body) (own_constructor_call p s.place word word args)
    unfolding own_constructor_call
    own-call word = behind (IsBuilt p q represents has body args (each-argument q body p.heads args fit) (own_type p.heads s.place.here.class)) (HeadFitsAs body) (constructor_for p s.place.here.class (own_type p.heads s.place.here.class) word args) (λ m. gives (typed_head s.place word word m args))
        (constructor-for p q represents has body args (each-argument q body p.heads args fit) s.place.here.class (own_type p.heads s.place.here.class) word
        (own-sound q p.heads represents.heads represents.sound s.place.here.class h.stands.place.there) (λ d e. subst (Rattle.fitting_laws.specs.Methods.HasDefault p q) (sym own ∙ same-number s.place.here.class d e) targets.own_default))
        (λ m b. head-node word (own_type p.heads s.place.here.class) m (λ d e. inl (ap class_numbered (sym (same-number s.place.here.class d e)) ∙ sym h.stands.place.class)) b)
      where
        number_or : ℕ → Option ℕ → ℕ
        number_or n (Some d) = d
        number_or n None = n

        same-number : (n d : ℕ) → ◌≡◌ {A = Option ℕ} (Some n) (Some d) → n ≡ d
        same-number n d e = ap (number_or n) e

    super-call : (word : Span) → Gives (HeadFitsAs body) (superclass_constructor_call p s.place word word args)
    unfolding superclass_constructor_call
    super-call word = behind (IsBuilt p q represents has body args (each-argument q body p.heads args fit) (superclass_of p.heads s.place.here.class)) (HeadFitsAs body) (constructor_for p s.place.here.class (superclass_of p.heads s.place.here.class) word args) _
        (constructor-for p q represents has body args (each-argument q body p.heads args fit) s.place.here.class (superclass_of p.heads s.place.here.class) word
        (superclass-sound q p.heads represents.heads represents.sound represents.object s.place.here.class) (λ d e. targets.default_above d (ap (λ (n : ℕ). class_in (superclass_of p.heads n)) (sym own) ∙ e)))
        (λ m b. behind-check (HeadFitsAs body) NoEnclosing word (has_enclosing p (superclass_of p.heads s.place.here.class) s.place.round) (gives (typed_head s.place word word m args))
        (λ _. head-node word (superclass_of p.heads s.place.here.class) m (λ d e. inr (targets.above d (ap (λ (n : ℕ). class_in (superclass_of p.heads n)) (sym own) ∙ e))) b))

    pub called : (is_super : Bool) (word : Span) → Gives (HeadFitsAs body) (constructor_call p is_super s.place word args)
    called true word = super-call word
    called false word = own-call word

  -- ---- at the head

  module _ (body : Body) (start : Scope) (met : List Met) (known : BodyStands p k q body (in_arguments start) met) (s : Scope) (own : s.place.here.class ≡ c) (none : s.place.here.local_classes ≡ []) (instance_body : body.is_static ≡ false) where
    abbrev pub Headed : ConstructorInvocation → List TypedNode → Type 0
    Headed call calls = IsAmong (met_in_head p s call) met × IsInBody p k q body start s → Heads body calls

    pub heads-fit : (class_span : Span) (call : ConstructorInvocation) → CallIsWritten call → Gives (Headed call) (head_call p k s class_span call)
    heads-fit class_span tree.implicit lengths = behind (λ t. Unit {0}) (Headed tree.implicit) (implicit_constructor_call p s.place class_span) (λ t. gives []) (any (implicit_constructor_call p s.place class_span)) (λ t _ h. no_head)
    heads-fit class_span (tree.explicit is_super word es) lengths = behind (Passed body (in_arguments start) met known (in_arguments s) es) (Headed (tree.explicit is_super word es)) (values p k (in_arguments s) es) _ (arguments-fit body (in_arguments start) met known (in_arguments s) es lengths)
        (λ args vs. behind (λ t. ArgumentsFit q body p.heads args × IsInBody p k q body start s → HeadFitsAs body t) (Headed (tree.explicit is_super word es)) (constructor_call p is_super s.place word args) (λ t. gives (t ∷ []))
        (under (ArgumentsFit q body p.heads args × IsInBody p k q body start s) (HeadFitsAs body) (constructor_call p is_super s.place word args) (λ h. called body start s own h.1 instance_body args h.0 is_super word))
        (λ t f h. one_head (f (vs (h.0, in-arguments body start s own none h.1), h.1))))
