-- What the members of a class come to fits.
use Rattle.std.proofs.Common.{◌≡◌, ℕ, ◌≤◌, List, length, Option, Some, None, refl, sym, ap, ◌∙◌, subst}
use Rattle.std.specs.Prelude.{Bool, true, false, codes, slice_get}
use Rattle.je_base.specs.declared.span.NameId.{NameId}
use Rattle.je_base.specs.declared.span.Span.{Span}
use Rattle.je_core.specs.declared.types.Base.TheVariants as base
use Rattle.je_core.specs.declared.types.ClassId.{ClassId}
use Rattle.je_core.specs.declared.types.Ty.{Ty}
use Rattle.je_core.specs.Core.{CoreProgram, CoreStmt}
use Rattle.je_ast.specs.declared.name.Identifier.{Identifier}
use Rattle.je_ast.specs.Trees.{ConstructorInvocation, MaybeBlock, Member, Members, Statements}
use Rattle.je_ast.specs.Trees as tree
use Rattle.je_ast.specs.Types.{FormalParameter}
use Rattle.je_classes.specs.Members.{In, first as at_first}
use Rattle.je_fitting.specs.Expressions.{Body}
use Rattle.je_fitting.specs.Expressions as core
use Rattle.je_fitting.specs.Members.{BodyFits, a_block, behind_a_call, code_of as code_kind, local_types}
use Rattle.je_fitting.specs.Statements.{no_targets}
use Rattle.je_fitting.proofs.Booleans.{two}
use Rattle.je_scopes.specs.Sites.{context_of, instance}
use Rattle.je_scopes.specs.SourceTypes.{SourceType, plain}
use Rattle.library_classes.specs.Numbers.{number_in}
use Rattle.plain_programs.specs.Nodes.{every, every_expression}
use Rattle.source_types.specs.Erasure.{erased}
use Rattle.source_types.specs.Subtypes.{dims_of}
use Rattle.declarations.specs.Declarations.{DeclaredMethod}
use Rattle.overriding.specs.Methods.{methods_in}
use Rattle.je_typing.specs.Judged.{gives}
use Rattle.je_typing.specs.Typed.{TypedNode}
use Rattle.name_typing.specs.Program.{Frame, Program}
use Rattle.statement_steps.specs.Returns.{no_value}
use Rattle.body_typing.specs.Bodies.{Done, Met, Progress, block_of, with_met}
use Rattle.body_typing.specs.Expressions.{Known}
use Rattle.body_typing.specs.FinalVariables.{Scope}
use Rattle.body_typing.specs.Statements.{statements}
use Rattle.class_typing.specs.Constructors.{head_call, in_arguments, met_in_head}
use Rattle.class_typing.specs.Members.{Begun, MembersDone, class_span, constructor, constructor_code, fields_behind, followed_by, members_from, method, methods_behind, nothing_met, one_member, parameters, scope_in, with_head}
use Rattle.typing_laws.specs.Fitting.{Gives, stands_once, with_texts}
use Rattle.typing_laws.proofs.Nodes.{erased-plain}
use Rattle.fitting_laws.specs.Methods.{HasMethods}
use Rattle.fitting_laws.specs.Represented.{Represents}
use Rattle.fitting_laws.specs.Sound.{IsSound}
use Rattle.fitting_laws.proofs.Gives.{behind}
use Rattle.fitting_laws.proofs.Sound.{wider}
use Rattle.body_laws.specs.Bodies.{BodyStands, IsInBody, Returns}
use Rattle.body_laws.specs.Fitting.{DoneFits}
use Rattle.body_laws.specs.Written.{BlockIsWritten, BodyIsWritten, CallIsWritten, MemberIsWritten, MembersAreWritten}
use Rattle.body_laws.proofs.Grows.{Knows, before, grows-met, met-there, on}
use Rattle.body_laws.proofs.Switches.{parts-fit}
use Rattle.body_laws.proofs.Walk.{Block, block-fits, walk-block}
use Rattle.class_fitting_laws.specs.Classes.{ClassStands, HeadCallsStand}
use Rattle.class_fitting_laws.specs.Laws.{MembersFit}
use Rattle.class_fitting_laws.specs.Written.{MemberStands, MembersStand, MethodsStand}
use Rattle.class_fitting_laws.proofs.Heads.{Headed, Heads, heads-fit, no_head, one_head}
use Rattle.class_fitting_laws.proofs.Initializers.{Code, by-given, code-followed, fields-fit, for-each, initializer-fits, no-code, own-locals}
use Rattle.class_fitting_laws.proofs.Methods.{ParametersStand, body-with, method-fits, one-method, only-method, parameters-stand, same-some}
use Rattle.class_fitting_laws.proofs.Scopes.{begins}

module _ (p : Program) (k : Known) (q : CoreProgram) (c : ℕ) (round : List Frame) (superclass : Option ClassId) (represents : Represents p q) (has : HasMethods p q) (stands : ClassStands p q c round) where
  abbrev Finished : MembersDone → Type 0
  Finished d = Code p k q c round superclass represents has stands d

  abbrev name : NameId
  name = number_in p.source.texts (codes "new")

  module _ (id : Identifier) (at : ℕ) (m : DeclaredMethod) (there : slice_get (methods_in (slice_get p.classes c)) at ≡ Some m) (own : m.flags.is_static ≡ false) (void : m.result ≡ plain base.Void 0) (targets : HeadCallsStand p q c superclass) where
    abbrev first : Scope
    first = scope_in p k c round instance None true

    abbrev with-locals : List Ty → Body
    with-locals locals = body-with p k q c round name m locals

    in-body : (locals : List Ty) → IsInBody p k q (with-locals locals) first first
    in-body locals = begins p k q c round stands (with-locals locals) instance None true refl (λ e. own) (λ e. ap (λ (b : Bool). core.builds (code_kind b)) stands.constructors) (λ e. absurd cc)

    result : (locals : List Ty) → Returns (with-locals locals) p.heads no_value
    result locals = ap (λ (t : SourceType). Some (erased p.heads t)) void ∙ ap Some (erased-plain p.heads base.Void)

    sound : (t : SourceType) → In m.parameters t → IsSound q p.heads 255 t
    sound t i = wider q p.heads (has.parameters c at m there t i)

    abbrev Whichever : Type 0
    Whichever = (locals : List Ty) × (met : List Met) × BodyStands p k q (with-locals locals) first met × BodyStands p k q (with-locals locals) (in_arguments first) met

    -- the body with the locals of a walk, by what was met in it, and its head
    abbrev Stands : Progress → Type 0
    Stands final = BodyStands p k q (with-locals (local_types final.locals)) first final.met × BodyStands p k q (with-locals (local_types final.locals)) (in_arguments first) final.met

    module _ (call : ConstructorInvocation) (b : Begun) (begun : ParametersStand p k q c round first nothing_met m.parameters b) where
      abbrev behind-head : Progress
      behind-head = with_met (met_in_head p b.scope call) b.progress

      abbrev Called : List TypedNode → Type 0
      Called calls = (i : Whichever) → Headed p k q c round superclass represents has stands targets (with-locals i.0) first i.1 i.3 b.scope begun.class begun.classes own call calls

      abbrev Walked : Done → Type 0
      Walked d = (i : Whichever) → Block p k q (with-locals i.0) first i.1 no_value represents has i.2 (result i.0) no_targets b.scope behind-head d

      heads : CallIsWritten call → Gives Called (head_call p k b.scope (class_span p k c round) call)
      heads lengths = for-each (λ (i : Whichever) calls. Headed p k q c round superclass represents has stands targets (with-locals i.0) first i.1 i.3 b.scope begun.class begun.classes own call calls) (head_call p k b.scope (class_span p k c round) call)
          (λ i. heads-fit p k q c round superclass represents has stands targets (with-locals i.0) first i.1 i.3 b.scope begun.class begun.classes own (class_span p k c round) call lengths)

      walked : (ss : Statements) → BodyIsWritten ss → Gives Walked (statements p k no_value no_targets b.scope behind-head ss)
      walked ss lengths = for-each (λ (i : Whichever) d. Block p k q (with-locals i.0) first i.1 no_value represents has i.2 (result i.0) no_targets b.scope behind-head d) (statements p k no_value no_targets b.scope behind-head ss)
          (λ i. walk-block p k q (with-locals i.0) first i.1 no_value represents has i.2 (result i.0) no_targets b.scope behind-head ss lengths)

      module _ (opening closing : Span) (d : Done) (known : Stands d.progress) where
        abbrev types : List Ty
        types = local_types d.progress.locals

        abbrev own-body : Body
        own-body = with-locals types

        abbrev all : Whichever
        all = (types, d.progress.met, known.0, known.1)

        head-block : (calls : List TypedNode) → Heads p k q c round superclass represents has stands targets own-body calls → DoneFits p k q own-body first no_targets d → (texts : List (List ℕ))
            → every_expression (stands_once texts) (block_of opening closing (with_head p k c round opening call calls d)) ≡ true → BodyFits (with_texts q texts) own-body superclass (block_of opening closing (with_head p k c round opening call calls d))
        head-block _ no_head f texts h = a_block (block-fits p k q own-body first d.progress.met no_value represents has known.0 (result types) no_targets opening closing d f texts h)
        head-block _ (one_head {t = t} g) f texts h = let s = two {a = every (stands_once texts) t.node} h in behind_a_call (ap code_kind stands.constructors) f.numbers (g texts s.0) (parts-fit f.code texts s.1)

        all-known : Knows own-body d.progress.met d.progress
        all-known = record { locals = own-locals own-body d.progress refl; met = λ x i. i }

        own-scope : Walked d → IsInBody p k q own-body first b.scope
        own-scope w = begun.scope own-body first d.progress.met (before (grows-met (met_in_head p b.scope call) b.progress) (before (w all).0.grows all-known)) sound (in-body types)

        finished : (calls : List TypedNode) → Called calls → Walked d → (s : CoreStmt) → ◌≡◌ {A = Option CoreStmt} (Some (block_of opening closing (with_head p k c round opening call calls d))) (Some s) → (texts : List (List ℕ))
            → every_expression (stands_once texts) s ≡ true → BodyFits (with_texts q texts) own-body superclass s
        finished calls f w s e texts h =
            let done = w all in
            let behind-knows = before done.0.grows all-known in
            let scope = own-scope w in
            let code = block_of opening closing (with_head p k c round opening call calls d) in
            subst (BodyFits (with_texts q texts) own-body superclass) (same-some code s e)
            (head-block calls (f all (met-there (met_in_head p b.scope call) b.progress behind-knows, scope)) (done.1 all-known scope) texts (subst (λ (x : CoreStmt). every_expression (stands_once texts) x ≡ true) (sym (same-some code s e)) h))

        constructor-done : (calls : List TypedNode) → Called calls → Walked d → Finished (constructor_code p k c round at id m call calls opening closing d)
        constructor-done calls f w = only-method p k q c round superclass represents has stands (constructor_code p k c round at id m call calls opening closing d) _ refl refl
            (one-method p k q c round superclass represents has stands name id.span m first b d.progress (Some (block_of opening closing (with_head p k c round opening call calls d))) begun
            (on (grows-met (met_in_head p b.scope call) b.progress) (w all).0.grows) sound ((w all).0.typed all-known (own-scope w)) (λ s e texts h. finished calls f w s e texts h))

    abbrev Known-bodies : MembersDone → Type 0
    Known-bodies d = MethodsStand p k q c round first d × MethodsStand p k q c round (in_arguments first) d

    abbrev Coded : MembersDone → Type 0
    Coded d = Known-bodies d → Finished d

    coded : (fs : List FormalParameter) (call : ConstructorInvocation) (opening : Span) (ss : Statements) (closing : Span) → CallIsWritten call → BodyIsWritten ss → length fs ≡ length m.parameters
        → Gives Coded (constructor p k c round at id fs call opening ss closing (Some m))
    coded fs call opening ss closing calls lengths e = behind (ParametersStand p k q c round first nothing_met m.parameters) Coded (parameters p k c round first nothing_met fs m.parameters) _ (parameters-stand p k q c round first nothing_met fs m.parameters e) (λ b begun.
        behind (Called call b begun) Coded (head_call p k b.scope (class_span p k c round) call) _ (heads call b begun calls) (λ heads-done f.
        behind (Walked call b begun) Coded (statements p k no_value no_targets b.scope (behind-head call b begun) ss) (λ d. gives (constructor_code p k c round at id m call heads-done opening closing d)) (walked call b begun ss lengths)
        (λ d w known. constructor-done call b begun opening closing d (known.0 _ at_first, known.1 _ at_first) heads-done f w)))

    constructor-fits : (fs : List FormalParameter) (call : ConstructorInvocation) (opening : Span) (ss : Statements) (closing : Span) → CallIsWritten call → BodyIsWritten ss → length fs ≡ length m.parameters
        → ((d : MembersDone) → constructor p k c round at id fs call opening ss closing (Some m) ≡ gives d → Known-bodies d) → Gives Finished (constructor p k c round at id fs call opening ss closing (Some m))
    constructor-fits fs call opening ss closing calls lengths e known = by-given Known-bodies Finished (constructor p k c round at id fs call opening ss closing (Some m)) known (coded fs call opening ss closing calls lengths e)

  -- ---- any member

  abbrev method-scope : DeclaredMethod → Scope
  method-scope m = scope_in p k c round (context_of m.flags.is_static) None false

  abbrev building-scope : Scope
  building-scope = scope_in p k c round instance None true

  method-if : (id : Identifier) (at : ℕ) (fs : List FormalParameter) (block : MaybeBlock) (o : Option DeclaredMethod) → slice_get (methods_in (slice_get p.classes c)) at ≡ o → BlockIsWritten block
      → ((m : DeclaredMethod) → o ≡ Some m → (length fs ≡ length m.parameters) × (dims_of m.result ≤ 255) × ((d : MembersDone) → method p k c round id fs block o ≡ gives d → MethodsStand p k q c round (method-scope m) d))
      → Gives Finished (method p k c round id fs block o)
  method-if id at fs block None e lengths f = no-code p k q c round superclass represents has stands _ refl refl
  method-if id at fs block (Some m) e lengths f = let g = f m refl in method-fits p k q c round superclass represents has stands id at m e g.1 fs block lengths g.0 g.2

  constructor-if : (id : Identifier) (at : ℕ) (fs : List FormalParameter) (call : ConstructorInvocation) (opening : Span) (ss : Statements) (closing : Span) (o : Option DeclaredMethod) → slice_get (methods_in (slice_get p.classes c)) at ≡ o
      → CallIsWritten call → BodyIsWritten ss
      → ((m : DeclaredMethod) → o ≡ Some m → (length fs ≡ length m.parameters) × (m.flags.is_static ≡ false) × (m.result ≡ plain base.Void 0) × HeadCallsStand p q c superclass
      × ((d : MembersDone) → constructor p k c round at id fs call opening ss closing o ≡ gives d → MethodsStand p k q c round building-scope d)
      × ((d : MembersDone) → constructor p k c round at id fs call opening ss closing o ≡ gives d → MethodsStand p k q c round (in_arguments building-scope) d))
      → Gives Finished (constructor p k c round at id fs call opening ss closing o)
  constructor-if id at fs call opening ss closing None e calls lengths f = no-code p k q c round superclass represents has stands _ refl refl
  constructor-if id at fs call opening ss closing (Some m) e calls lengths f = let g = f m refl in constructor-fits id at m e g.1 g.2 g.3 fs call opening ss closing calls lengths g.0 (λ d x. (g.4 d x, g.5 d x))

  one-fits : (fields methods : ℕ) (m : Member) → MemberIsWritten m → MemberStands p k q c round superclass fields methods m → Gives Finished (one_member p k c round fields methods m)
  one-fits fields methods (tree.member_type d) lengths h = no-code p k q c round superclass represents has stands _ refl refl
  one-fits fields methods (tree.field ms t vs span) lengths h = fields-fit p k q c round superclass represents has stands fields vs lengths h
  one-fits fields methods (tree.method ms t id fs ts block span) lengths h = method-if id methods fs block (slice_get (methods_in (slice_get p.classes c)) methods) refl lengths h
  one-fits fields methods (tree.constructor ms id fs ts call opening ss closing span) lengths h = constructor-if id methods fs call opening ss closing (slice_get (methods_in (slice_get p.classes c)) methods) refl lengths.0 lengths.1 h
  one-fits fields methods (tree.initializer word opening ss closing span) lengths h = initializer-fits p k q c round superclass represents has stands word fields opening closing ss lengths h

  all-fit : (fields methods : ℕ) (ms : Members) → MembersAreWritten ms → MembersStand p k q c round superclass fields methods ms → Gives Finished (members_from p k c round fields methods ms)
  all-fit fields methods tree.no_members lengths h = no-code p k q c round superclass represents has stands _ refl refl
  all-fit fields methods (tree.more_members m ms) lengths h = behind Finished Finished (one_member p k c round fields methods m) _ (one-fits fields methods m lengths.0 h.0)
      (λ d f. behind Finished Finished (members_from p k c round (fields_behind fields m) (methods_behind methods m) ms) (λ rest. gives (followed_by d rest)) (all-fit (fields_behind fields m) (methods_behind methods m) ms lengths.1 h.1)
      (λ rest g. code-followed p k q c round superclass represents has stands d rest f g))

pub members_fit : MembersFit
members_fit p k q c round superclass represents has stands fields methods ms lengths h = all-fit p k q c round superclass represents has stands fields methods ms lengths h
