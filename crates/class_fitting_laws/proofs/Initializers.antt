-- Initializers of a class, and of its fields, fit (JLS 8.3.2, 8.6, 8.7).
use Rattle.std.proofs.Common.{◌≡◌, ℕ, suc, ◌≤◌, List, [], length, get_or, Option, Some, None, refl, sym, ap, ◌∙◌, subst, arith}
use Rattle.std.specs.Prelude.{Bool, true, false, option_map, slice_get, if◌then◌else◌}
use Rattle.std.proofs.lemmas.List.{length-map}
use Rattle.std.proofs.lemmas.List.Elements.{All-from_get_or, All-nil}
use Rattle.std.proofs.lemmas.Option.{slice_get-get_or, slice_get-map}
use Rattle.je_base.specs.declared.span.Span.{Span}
use Rattle.je_core.specs.declared.program.Local.{Local as LocalOf}
use Rattle.je_core.specs.declared.types.ClassId.{ClassId}
use Rattle.je_core.specs.declared.types.Ty.{Ty}
use Rattle.je_core.specs.Core.{Core, CoreField, CoreInitializer, CoreMethod, CoreProgram, form_of, node, no_core, ty_of}
use Rattle.je_core.specs.Core as core
use Rattle.je_ast.specs.declared.name.Identifier.{Identifier}
use Rattle.je_ast.specs.Spans as written
use Rattle.je_ast.specs.Trees.{Expression, MaybeExpression, Statements, Variables}
use Rattle.je_ast.specs.Trees as tree
use Rattle.je_classes.specs.Members.{In, first as at_first}
use Rattle.je_classes.specs.Subtypes.{class_type, is_subtype}
use Rattle.je_classes.proofs.Sets.{by_either, in-either}
use Rattle.je_fitting.specs.Expressions.{Body, Fits, IsPlace, field_at}
use Rattle.je_fitting.specs.Expressions as fits
use Rattle.je_fitting.specs.Members.{AreVariables, initializer_code, local_types}
use Rattle.je_fitting.specs.Statements.{no_targets}
use Rattle.je_fitting.specs.Types.{agrees, int, is_variable_type}
use Rattle.je_fitting.proofs.Booleans.{two}
use Rattle.je_scopes.specs.Sites.{context_of, initializer_context}
use Rattle.plain_programs.specs.Nodes.{every}
use Rattle.source_types.specs.Erasure.{class_numbered, erased}
use Rattle.source_types.specs.Subtypes.{dims_of}
use Rattle.declarations.specs.Declarations.{DeclaredField}
use Rattle.je_typing.specs.Conversions.{assigned}
use Rattle.je_typing.specs.Judged.{Judged, bind, faulty, gives}
use Rattle.je_typing.specs.Typed.{TypedNode, is_void}
use Rattle.name_typing.specs.Fields.{field_at as declared_at, member}
use Rattle.name_typing.specs.Instances.{this_node}
use Rattle.name_typing.specs.Program.{Constant, Frame, Program}
use Rattle.statement_steps.specs.Returns.{never}
use Rattle.body_typing.specs.Bodies.{Done, Met, Progress, met_in_expression}
use Rattle.body_typing.specs.ConstantVariables.{variable_constant}
use Rattle.body_typing.specs.Expressions.{Known, expression, initial, value}
use Rattle.body_typing.specs.FinalVariables.{Scope}
use Rattle.body_typing.specs.Statements.{statements}
use Rattle.class_typing.specs.Members.{MembersDone, field_code, field_initializer, field_node, field_scope, followed_by, initialized, initializer_scope, is_static_word, nothing, nothing_met, one_member, inner_static, variable, variables}
use Rattle.class_typing.specs.Members as members
use Rattle.typing_laws.specs.Fitting.{Gives, stands_once, with_texts}
use Rattle.typing_laws.specs.Passing.{PassesAs}
use Rattle.typing_laws.proofs.Assigned.{assigned_values_pass}
use Rattle.typing_laws.proofs.Assignments.{agrees-itself, whole, with-place}
use Rattle.typing_laws.proofs.Erased.{erased-not-void}
use Rattle.fitting_laws.specs.Methods.{HasMethods}
use Rattle.fitting_laws.specs.Represented.{FieldStands, Represents}
use Rattle.fitting_laws.specs.Sound.{IsSound}
use Rattle.fitting_laws.proofs.Gives.{behind}
use Rattle.fitting_laws.specs.Values.{IsValue}
use Rattle.fitting_laws.proofs.Instances.{FitsWith, class-itself, field-fits, this-fits}
use Rattle.fitting_laws.proofs.Lists.{in-one}
use Rattle.fitting_laws.proofs.Sound.{sound-dims, type-dims, wider}
use Rattle.fitting_laws.proofs.Walk.{expressions_fit, used-value}
use Rattle.body_laws.specs.Bodies.{BodyStands, HasLocals, IsInBody, same}
use Rattle.body_laws.specs.Fitting.{AreTyped}
use Rattle.body_laws.specs.Written.{BodyIsWritten, IsWritten, IsWrittenIf, VariablesAreWritten}
use Rattle.body_laws.proofs.Declared.{sound-value}
use Rattle.body_laws.proofs.Grows.{Knows}
use Rattle.body_laws.proofs.Mentions.{expression-stands}
use Rattle.body_laws.proofs.Values.{performed-fits, under}
use Rattle.body_laws.proofs.Walk.{Block, any, block-fits, walk-block}
use Rattle.class_fitting_laws.specs.Classes.{ClassStands}
use Rattle.class_fitting_laws.specs.Fitting.{CodeFits, InitializerCodeFits, MethodCodeFits}
use Rattle.class_fitting_laws.specs.Written.{FieldBodyStands, InitializersStand, VariableStands, VariablesStand, field_body}
use Rattle.class_fitting_laws.proofs.Scopes.{begins}

-- what holds for each
pub for-each : {A I : Type 0} (P : I → A → Type 0) (j : Judged A) → ((i : I) → Gives (P i) j) → Gives (λ a. (i : I) → P i a) j
for-each P (gives a) h = h
for-each P (faulty fault) h = tt

-- what holds where something is known of what is given, which is known
pub by-given : {A : Type 0} (K P : A → Type 0) (j : Judged A) → ((a : A) → j ≡ gives a → K a) → Gives (λ a. K a → P a) j → Gives P j
by-given K P (gives a) f h = h (f a refl)
by-given K P (faulty fault) f h = tt

-- types of a body's locals that are those of variables
pub typed-locals : (q : CoreProgram) (body : Body) (ls : List LocalOf) → body.locals ≡ local_types ls → AreTyped q body 0 (length ls) → AreVariables q (local_types ls)
typed-locals q body ls e typed = All-from_get_or (λ t. is_variable_type q t ≡ true) (local_types ls) int (λ n l.
    typed n (get_or (local_types ls) n int) (omega arith) (omega (arith, l, length-map ls (λ (x : LocalOf). x.ty))) (ap (λ (ts : List Ty). slice_get ts n) e ∙ slice_get-get_or (local_types ls) n int l))

-- a body with the locals of a walk has them
pub own-locals : (body : Body) (pr : Progress) → body.locals ≡ local_types pr.locals → HasLocals body pr
own-locals body pr e n l h = ap (λ (ts : List Ty). slice_get ts n) e ∙ slice_get-map (λ (x : LocalOf). x.ty) pr.locals n ∙ ap (option_map (λ (x : LocalOf). x.ty)) h

module _ (p : Program) (k : Known) (q : CoreProgram) (c : ℕ) (round : List Frame) (superclass : Option ClassId) (represents : Represents p q) (has : HasMethods p q) (stands : ClassStands p q c round) where
  abbrev pub Code : MembersDone → Type 0
  Code d = CodeFits q (class_numbered c) superclass d

  pub no-code : (d : MembersDone) → d.initializers ≡ [] → d.methods ≡ [] → CodeFits q (class_numbered c) superclass d
  no-code d e f = record {
    initializers = λ i h. no-initializer i (subst (λ (is : List CoreInitializer). In is i) e h);
    methods = λ m h. no-method m (subst (λ (ms : List CoreMethod). In ms m) f h);
  }
    where
      no-initializer : (i : CoreInitializer) → In [] i → InitializerCodeFits q (class_numbered c) i
      no-initializer i h = elim h [ ]

      no-method : (m : CoreMethod) → In [] m → MethodCodeFits q (class_numbered c) superclass m
      no-method m h = elim h [ ]

  -- ---- blocks

  abbrev block-body : Option Span → List Ty → Body
  block-body word locals = record { class = class_numbered c; code = initializer_code (is_static_word p k c round word); is_static = is_static_word p k c round word; locals = locals; returns = None }

  block-begins : (word : Option Span) (fields : ℕ) (locals : List Ty) → IsInBody p k q (block-body word locals) (initializer_scope p k c round word fields) (initializer_scope p k c round word fields)
  block-begins None fields locals = begins p k q c round stands (block-body None locals) (initializer_context None) (Some (record { is_static = false; declared = fields })) false refl (λ e. refl) (λ e. refl) (λ e. absurd cc)
  block-begins (Some word) fields locals = begins p k q c round stands (block-body (Some word) locals) (initializer_context (Some word)) (Some (record { is_static = true; declared = fields })) false refl (λ e. absurd cc) (λ e. absurd cc) (λ e. refl)

  module _ (word : Option Span) (fields : ℕ) where
    abbrev first : Scope
    first = initializer_scope p k c round word fields

    -- whatever its locals and what is met in it
    abbrev Whichever : Type 0
    Whichever = (locals : List Ty) × (met : List Met) × BodyStands p k q (block-body word locals) first met

    abbrev Walked : Done → Type 0
    Walked d = (i : Whichever) → Block p k q (block-body word i.0) first i.1 never represents has i.2 tt no_targets first nothing_met d

    blocks : (ss : Statements) → BodyIsWritten ss → Gives Walked (statements p k never no_targets first nothing_met ss)
    blocks ss lengths = for-each (λ (i : Whichever) d. Block p k q (block-body word i.0) first i.1 never represents has i.2 tt no_targets first nothing_met d) (statements p k never no_targets first nothing_met ss)
        (λ i. walk-block p k q (block-body word i.0) first i.1 never represents has i.2 tt no_targets first nothing_met ss lengths)

    abbrev Coded : MembersDone → Type 0
    Coded d = InitializersStand p k q c round first d → Code d

    block-code : (opening closing : Span) (d : Done) → Walked d → Coded (members.initializer_code p k c round (is_static_word p k c round word) opening closing d)
    block-code opening closing d w known =
        let own = block-body word (local_types d.progress.locals) in
        let walked = w (local_types d.progress.locals, d.progress.met, known _ at_first) in
        let knows : Knows own d.progress.met d.progress = record { locals = own-locals own d.progress refl; met = λ m i. i } in
        let starts = block-begins word fields (local_types d.progress.locals) in
        record {
          initializers = λ i h. subst (InitializerCodeFits q (class_numbered c)) (sym (in-one _ i h)) (record {
            locals = typed-locals q own d.progress.locals refl (walked.0.typed knows starts);
            body = block-fits p k q own first d.progress.met never represents has (known _ at_first) tt no_targets opening closing d (walked.1 knows starts);
          });
          methods = λ m h. elim h [ ];
        }

    pub initializer-fits : (opening closing : Span) (ss : Statements) → BodyIsWritten ss
        → ((d : MembersDone) → bind (statements p k never no_targets first nothing_met ss) (λ d. gives (members.initializer_code p k c round (is_static_word p k c round word) opening closing d)) ≡ gives d → InitializersStand p k q c round first d)
        → Gives Code (bind (statements p k never no_targets first nothing_met ss) (λ d. gives (members.initializer_code p k c round (is_static_word p k c round word) opening closing d)))
    initializer-fits opening closing ss lengths known = by-given (InitializersStand p k q c round first) Code _ known
        (behind Walked Coded (statements p k never no_targets first nothing_met ss) (λ d. gives (members.initializer_code p k c round (is_static_word p k c round word) opening closing d)) (blocks ss lengths) (block-code opening closing))

  -- ---- one after the other

  pub code-followed : (d rest : MembersDone) → Code d → Code rest → Code (followed_by d rest)
  code-followed d rest f g = record {
    initializers = λ i h. by_either (λ x. f.initializers i x) (λ x. g.initializers i x) (in-either d.initializers h);
    methods = λ m h. by_either (λ x. f.methods m x) (λ x. g.methods m x) (in-either d.methods h);
  }

  -- ---- fields

  abbrev field-body : Bool → Body
  field-body b = field_body c b

  field-begins : (b : Bool) (at : ℕ) → IsInBody p k q (field-body b) (field_scope p k c round b at) (field_scope p k c round b at)
  field-begins false at = begins p k q c round stands (field-body false) (context_of false) (Some (record { is_static = false; declared = at })) false refl (λ e. refl) (λ e. refl) (λ e. absurd cc)
  field-begins true at = begins p k q c round stands (field-body true) (context_of true) (Some (record { is_static = true; declared = at })) false refl (λ e. absurd cc) (λ e. absurd cc) (λ e. refl)

  -- the field as what is assigned
  module _ (f : DeclaredField) (at : ℕ) (span : Span) (there : declared_at p.classes (member c at) ≡ Some f) where
    abbrev own : FieldStands q p.heads (member c at) f
    own = represents.fields (member c at) f there

    abbrev place-of : Bool → Core
    place-of b = if b then node (core.Static no_core (class_numbered c) at) (erased p.heads f.ty) span span else node (core.Field (this_node (field_scope p k c round false at).place span) (class_numbered c) at) (erased p.heads f.ty) span span

    place-fits : (b : Bool) → f.is_static ≡ b → FitsWith q (field-body b) (place-of b) (erased p.heads f.ty)
    place-fits true e = record {
      node = λ texts h. subst (λ (t : Ty). Fits (with_texts q texts) (field-body true) (node (core.Static no_core (class_numbered c) at) t span span)) own.type (fits.static fits.nothing own.there (own.is_static ∙ e));
      uses = All-nil _;
      type = refl;
    }
    place-fits false e =
        let object = this-fits p q (field-body false) (field_scope p k c round false at).place (field-begins false at).stands.place span refl in
        field-fits q (field-body false) (this_node (field_scope p k c round false at).place span) (class_numbered c) at own.field (erased p.heads f.ty) span span object.node
        (ap (λ (t : Ty). is_subtype q t (class_type (class_numbered c))) object.type ∙ class-itself q (class_numbered c)) own.there (own.is_static ∙ e) own.type

    place-is : (b : Bool) → IsPlace q (field-body b) (form_of (place-of b))
    place-is true = fits.an_own_static refl
    place-is false = fits.an_own_field refl refl

    assigned-node : (b : Bool) → f.is_static ≡ b → is_void f.ty ≡ false → (n : Core) → PassesAs q (field-body b) p.heads f.ty n → (texts : List (List ℕ))
        → every (stands_once texts) (node (core.Assign (place-of b) n) (erased p.heads f.ty) span span) ≡ true → Fits (with_texts q texts) (field-body b) (node (core.Assign (place-of b) n) (erased p.heads f.ty) span span)
    assigned-node b e value n passed texts h =
        let s = two {a = every (stands_once texts) (place-of b)} h in
        let place = place-fits b e in
        fits.assign (whole (place-of b)) (place.node texts s.0) (with-place q (field-body b) p.heads texts (form_of (place-of b)) (place-is b)) (passed.node texts s.1) (passed.agree texts)
        (ap (agrees (with_texts q texts) (erased p.heads f.ty)) place.type ∙ agrees-itself (with_texts q texts) (erased p.heads f.ty).base (erased p.heads f.ty).dims (erased-not-void p.heads represents.heads.bounds f.ty value))

    field-initialized : is_void f.ty ≡ false → (n : Core) → PassesAs q (field-body f.is_static) p.heads f.ty n → InitializerCodeFits q (class_numbered c) (field_initializer p k c round f at span n)
    field-initialized value n passed = record {
      locals = All-nil _;
      body = performed-fits q (field-body f.is_static) no_targets span (node (core.Assign (place-of f.is_static) n) (erased p.heads f.ty) span span) (assigned-node f.is_static refl value n passed);
    }

  module _ (f : DeclaredField) (at : ℕ) (id : Identifier) (e : Expression) (there : declared_at p.classes (member c at) ≡ Some f) where
    abbrev scope-of : Scope
    scope-of = field_scope p k c round f.is_static at

    field-sound : IsSound q p.heads 255 f.ty
    field-sound = wider q p.heads (represents.field_types (member c at) f there)

    few : dims_of f.ty ≤ 255
    few = sound-dims q p.heads (omega arith) field-sound

    abbrev Known-body : Type 0
    Known-body = FieldBodyStands p k q c round at e f.is_static

    abbrev Coded-field : MembersDone → Type 0
    Coded-field d = Known-body → Code d

    code-of : (from : TypedNode) (n : Core) (b : Bool) (o : Option Constant) → (Known-body → PassesAs q (field-body f.is_static) p.heads f.ty n) → Coded-field (field_code p k c round f at id e from n b o)
    code-of from n true (Some constant) passed known = no-code _ refl refl
    code-of from n true None passed known = record { initializers = λ i h. subst (InitializerCodeFits q (class_numbered c)) (sym (in-one _ i h)) (field-initialized f at id.span there (sound-value q p field-sound) n (passed known)); methods = λ m h. elim h [ ] }
    code-of from n false o passed known = record { initializers = λ i h. subst (InitializerCodeFits q (class_numbered c)) (sym (in-one _ i h)) (field-initialized f at id.span there (sound-value q p field-sound) n (passed known)); methods = λ m h. elim h [ ] }

    abbrev Value : TypedNode → Type 0
    Value from = IsValue q (field-body f.is_static) p.heads from × (is_void from.type ≡ false)

    reads : IsWritten e → Gives (λ from. Known-body → Value from) (value (expression p k scope-of (initial f.ty) e))
    reads lengths = under Known-body Value (value (expression p k scope-of (initial f.ty) e))
        (λ known. used-value p k q (field-body f.is_static) scope-of represents has (field-begins f.is_static at).stands (expression p k scope-of (initial f.ty) e)
        (expressions_fit p k q (field-body f.is_static) scope-of represents has (field-begins f.is_static at).stands (initial f.ty) e field-sound
        (expression-stands p k q (field-body f.is_static) scope-of (met_in_expression p scope-of e) known scope-of scope-of e same (field-begins f.is_static at) lengths (λ m i. i))))

    passing : (from : TypedNode) → Gives (λ n. Value from → PassesAs q (field-body f.is_static) p.heads f.ty n) (assigned p.heads f.ty (written.span_of e) from)
    passing from = under (Value from) (PassesAs q (field-body f.is_static) p.heads f.ty) (assigned p.heads f.ty (written.span_of e) from)
        (λ v. assigned_values_pass q (field-body f.is_static) p.heads f.ty (written.span_of e) from represents.heads (type-dims q p.heads v.0.type) few v.0.fits)

    initialized-fits : IsWritten e → ((d : MembersDone) → initialized p k c round at id e (Some f) ≡ gives d → Known-body) → Gives Code (initialized p k c round at id e (Some f))
    initialized-fits lengths known = by-given (λ d. Known-body) Code (initialized p k c round at id e (Some f)) known
        (behind (λ from. Known-body → Value from) Coded-field (value (expression p k scope-of (initial f.ty) e)) _ (reads lengths) (λ from read.
        behind (λ n. Value from → PassesAs q (field-body f.is_static) p.heads f.ty n) Coded-field (assigned p.heads f.ty (written.span_of e) from) _ (passing from) (λ n pass.
        behind (λ u. Unit {0}) Coded-field (inner_static p k c round f id (variable_constant f.is_final f.ty from.node)) (λ u. gives (field_code p k c round f at id e from n f.is_static (variable_constant f.is_final f.ty from.node)))
        (any (inner_static p k c round f id (variable_constant f.is_final f.ty from.node)))
        (λ u _. code-of from n f.is_static (variable_constant f.is_final f.ty from.node) (λ body. pass (read body))))))

  field-fits-if : (at : ℕ) (id : Identifier) (e : Expression) → IsWritten e → VariableStands p k q c round at (tree.an_expression e) → (o : Option DeclaredField) → declared_at p.classes (member c at) ≡ o → Gives Code (initialized p k c round at id e o)
  field-fits-if at id e lengths h None is = no-code _ refl refl
  field-fits-if at id e lengths h (Some f) is = initialized-fits f at id e is lengths (λ d g. h f id d is g)

  one-field : (at : ℕ) (id : Identifier) (e : MaybeExpression) → IsWrittenIf e → VariableStands p k q c round at e → Gives Code (variable p k c round at id e)
  one-field at id tree.no_expression lengths h = no-code _ refl refl
  one-field at id (tree.an_expression e) lengths h = field-fits-if at id e lengths h (declared_at p.classes (member c at)) refl

  pub fields-fit : (at : ℕ) (vs : Variables) → VariablesAreWritten vs → VariablesStand p k q c round at vs → Gives Code (variables p k c round at vs)
  fields-fit at tree.no_variables lengths h = no-code _ refl refl
  fields-fit at (tree.more_variables id dims e vs) lengths h = behind Code Code (variable p k c round at id e) _ (one-field at id e lengths.0 h.0)
      (λ d f. behind Code Code (variables p k c round (suc at) vs) (λ rest. gives (followed_by d rest)) (fields-fit (suc at) vs lengths.1 h.1) (λ rest g. code-followed d rest f g))
