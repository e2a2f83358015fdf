-- `for`, over an array and else, fits where its parts do (JLS 14.14).
use Rattle.std.proofs.Common.{◌≡◌, ℕ, ◌+◌, ◌≤◌, List, [], ◌∷◌, ◌++◌, Option, Some, None, refl, sym, ap, ◌∙◌, subst, arith}
use Rattle.std.specs.Prelude.{Bool, true, false, length, ◌<◌, is_some, slice_get}
use Rattle.std.specs.List.{All}
use Rattle.std.proofs.lemmas.List.Elements.{All-cons, All-nil}
use Rattle.std.proofs.lemmas.Option.{none-some, slice_get_within}
use Rattle.je_base.specs.declared.span.Span.{Span}
use Rattle.je_core.specs.declared.types.Ty.{Ty}
use Rattle.je_core.specs.Core.{Core, CoreProgram, CoreStmt, core_stmts, stmt, stmt_form_of, ty_of}
use Rattle.je_core.specs.Core as core
use Rattle.je_ast.specs.declared.name.Identifier.{Identifier}
use Rattle.je_ast.specs.Spans as written
use Rattle.je_ast.specs.Trees.{Expression}
use Rattle.je_classes.specs.Subtypes.{array_of}
use Rattle.je_fitting.specs.Expressions.{Body, Fits}
use Rattle.je_fitting.specs.Expressions as fits
use Rattle.je_fitting.specs.Statements as block
use Rattle.je_fitting.specs.Statements.{Targets, in_loop, is_loop_form}
use Rattle.je_fitting.specs.Types.{agrees, int, is_variable_type}
use Rattle.je_fitting.proofs.Booleans.{two}
use Rattle.je_scopes.specs.SourceTypes.{SourceType}
use Rattle.plain_programs.specs.Nodes.{every, every_expression}
use Rattle.source_types.specs.Erasure.{erased}
use Rattle.source_types.specs.Heads.{ClassHead}
use Rattle.source_types.specs.Subtypes.{dims_of}
use Rattle.je_typing.specs.declared.fault.TypeRule.TheVariants.{BadForEach, LocalTwice}
use Rattle.je_typing.specs.Conversions.{assigned}
use Rattle.je_typing.specs.Typed.{TypedNode, element_type, is_void}
use Rattle.name_typing.specs.Program.{Program}
use Rattle.statement_steps.specs.Returns.{Returning}
use Rattle.body_typing.specs.Bodies.{Done}
use Rattle.body_typing.specs.Expressions.{Known}
use Rattle.body_typing.specs.FinalVariables.{Scope}
use Rattle.body_typing.specs.ForEach as each
use Rattle.body_typing.specs.Statements.{for_code, for_each_judged, start_of, with_label}
use Rattle.typing_laws.specs.Correspondence.{HasHeads}
use Rattle.typing_laws.specs.Fitting.{FitsAs, Gives, stands_once, with_texts}
use Rattle.typing_laws.specs.Passing.{PassesAs}
use Rattle.typing_laws.proofs.Assigned.{assigned_values_pass}
use Rattle.typing_laws.proofs.Assignments.{agrees-itself}
use Rattle.typing_laws.proofs.Elements.{element-is}
use Rattle.typing_laws.proofs.Erased.{erased-not-void}
use Rattle.fitting_laws.specs.Sound.{IsType, a_type, of_null, of_void}
use Rattle.fitting_laws.specs.Values.{IsValue}
use Rattle.fitting_laws.proofs.ArraysMade.{element-sound}
use Rattle.fitting_laws.proofs.Gives.{behind, behind-check, behind-need}
use Rattle.fitting_laws.proofs.Sound.{sound-dims, sound-variable, type-dims}
use Rattle.body_laws.specs.Fitting.{EachFits, StatementFitsAs, none_fits, one_fits}
use Rattle.body_laws.proofs.Declared.{all-fit}
use Rattle.body_laws.proofs.Steps.{Single, labelled-fits}
use Rattle.body_laws.proofs.Switches.{parts-fit}

-- what has elements has the type of a variable
pub array-variable : (q : CoreProgram) (heads : List ClassHead) → HasHeads q heads → (t : SourceType) → IsType q heads t → is_some (element_type t) ≡ true → is_variable_type q (erased heads t) ≡ true
array-variable q heads known t (a_type sound) h = sound-variable q heads known (omega arith) sound
array-variable q heads known _ of_null h = absurd cc
array-variable q heads known _ of_void h = absurd cc

-- ---- a loop behind its label

abbrev pub loop-targets : Option Identifier → Targets → Targets
loop-targets None j = j
loop-targets (Some id) j = record j { labels = record { name = id.name; is_loop = true } ∷ j.labels }

module _ (q : CoreProgram) (body : Body) (heads : List ClassHead) (known : HasHeads q heads) where
  abbrev Statement : Targets → CoreStmt → Type 0
  Statement j c = StatementFitsAs q body j c

  pub behind-label : (label : Option Identifier) (j : Targets) (loop : CoreStmt) → is_loop_form (stmt_form_of loop) ≡ true → Statement (loop-targets label j) loop → Statement j (with_label label loop)
  behind-label None j loop e f = f
  behind-label (Some id) j loop e f = labelled-fits q body heads known j id loop (subst (λ (b : Bool). Statement (record j { labels = record { name = id.name; is_loop = b } ∷ j.labels }) loop) (sym e) f)

  -- ---- JLS 14.14.1

  pub for-fits : (j : Targets) (label : Option Identifier) (word : Span) (p : Program) (k : Known) (returning : Returning) (start : Done) (loop : CoreStmt) → EachFits q body j start.code → All (λ n. n < length body.locals) start.numbers
      → is_loop_form (stmt_form_of loop) ≡ true → Statement (loop-targets label j) loop → Statement j (for_code p k returning label word start loop)
  for-fits j label word p k returning start loop code numbers e f texts g = block.block numbers (parts-fit (all-fit code (one_fits (behind-label label j loop e f) none_fits)) texts g)

  -- ---- JLS 14.14.2: the locals of the array, the index and the variable are there

  pub record EachStands (array : TypedNode) (n : ℕ) (t : SourceType) : Type 0 where
    pub value : IsValue q body heads array
    pub is_value : is_void array.type ≡ false
    pub array_there : slice_get body.locals n ≡ Some (erased heads array.type)
    pub index_there : slice_get body.locals (n + 1) ≡ Some int
    pub there : slice_get body.locals (n + 2) ≡ Some (erased heads t)
    pub few : dims_of t ≤ 255
    pub variable : is_void t ≡ false

  agrees-own : (texts : List (List ℕ)) (t : SourceType) → is_void t ≡ false → agrees (with_texts q texts) (erased heads t) (erased heads t) ≡ true
  agrees-own texts t e = agrees-itself (with_texts q texts) (erased heads t).base (erased heads t).dims (erased-not-void heads known.bounds t e)

  module _ (span : Span) (array : TypedNode) (n : ℕ) (t element : SourceType) (stands : EachStands array n t) (is : element_type array.type ≡ Some element) where
    array-type : erased heads array.type ≡ array_of (erased heads element)
    array-type = (element-is heads known.bounds array.type element is (type-dims q heads stands.value.type)).is

    element-few : dims_of element ≤ 255
    element-few = by array.type stands.value.type is
      where
        by : (u : SourceType) → IsType q heads u → element_type u ≡ Some element → dims_of element ≤ 255
        by u (a_type h) e = sound-dims q heads (omega arith) (element-sound q body heads known u element h e)
        by _ of_null e = absurd (none-some element e)
        by _ of_void e = absurd (none-some element e)

    element-fits : FitsAs q body heads (each.element heads span array n element)
    element-fits = record {
      node = λ texts h. fits.index (fits.local stands.array_there) array-type (fits.local stands.index_there) refl;
      uses = All-nil _;
      type = refl;
    }

    begins-fit : (j : Targets) (word : Span) → EachFits q body j (each.begins heads span array n word)
    begins-fit j word = one_fits (λ texts h. block.perform (fits.assign refl (fits.local stands.array_there) fits.a_local (stands.value.fits.node texts h)
        (ap (λ (u : Ty). agrees (with_texts q texts) u (erased heads array.type)) stands.value.fits.type ∙ agrees-own texts array.type stands.is_value) (agrees-own texts array.type stands.is_value)))
        (one_fits (λ texts h. block.perform (fits.assign refl (fits.local stands.index_there) fits.a_local (fits.const refl (All-nil _)) refl refl)) none_fits)

    within-fits : (texts : List (List ℕ)) → Fits (with_texts q texts) body (each.is_within heads span array n)
    within-fits texts = fits.binary (fits.local stands.index_there) (fits.length_of (fits.local stands.array_there) array-type) refl

    next-fits : (texts : List (List ℕ)) → Fits (with_texts q texts) body (each.next_index heads span array n)
    next-fits texts = fits.step refl (fits.local stands.index_there) fits.a_local refl refl refl

    module _ (at word : Span) (from : Core) (inner : CoreStmt) (passes : PassesAs q body heads t from) where
      variable-fits : (texts : List (List ℕ)) → every (stands_once texts) from ≡ true → Fits (with_texts q texts) body (each.variable_assigned heads span array n t at from)
      variable-fits texts h = fits.assign refl (fits.local stands.there) fits.a_local (passes.node texts h) (passes.agree texts) (agrees-own texts t stands.variable)

      one-there : All (λ i. i < length body.locals) ((n + 2) ∷ [])
      one-there = All-cons (λ i. i < length body.locals) (n + 2) [] (slice_get_within body.locals (n + 2) (erased heads t) stands.there) (All-nil _)

      turns-fit : (j : Targets) → Statement (in_loop j) inner → Statement j (each.turns heads span array n word t at from inner)
      turns-fit j f texts h = let s = two {a = every (stands_once texts) from} h in
          block.loop (within-fits texts) refl (All-cons (Fits (with_texts q texts) body) (each.next_index heads span array n) [] (next-fits texts) (All-nil _))
          (block.block one-there (block.more_statements (block.perform (variable-fits texts s.0)) (block.more_statements (f texts (two {a = every_expression (stands_once texts) inner} s.1).0) block.no_statements)))

      two-there : All (λ i. i < length body.locals) (n ∷ (n + 1) ∷ [])
      two-there = All-cons (λ i. i < length body.locals) n ((n + 1) ∷ []) (slice_get_within body.locals n (erased heads array.type) stands.array_there)
          (All-cons (λ i. i < length body.locals) (n + 1) [] (slice_get_within body.locals (n + 1) int stands.index_there) (All-nil _))

      each-fits : (j : Targets) (label : Option Identifier) → Statement (in_loop (loop-targets label j)) inner
          → Statement j (stmt (core.Block (n ∷ (n + 1) ∷ []) (core_stmts (each.begins heads span array n word ++ with_label label (each.turns heads span array n word t at from inner) ∷ []))) (start_of label word) word)
      each-fits j label f texts g = block.block two-there (parts-fit (all-fit (begins-fit j word) (one_fits (behind-label label j (each.turns heads span array n word t at from inner) refl (turns-fit (loop-targets label j) f)) none_fits)) texts g)

module _ (p : Program) (k : Known) (returning : Returning) (q : CoreProgram) (body : Body) (known : HasHeads q p.heads) where
  abbrev pub EachAssigned : (j : Targets) (label : Option Identifier) (array : TypedNode) (n : ℕ) (t : SourceType) (inner code : CoreStmt) → Type 0
  EachAssigned j label array n t inner code = (is_some (element_type array.type) ≡ true)
      × (EachStands q body p.heads known array n t → StatementFitsAs q body (in_loop (loop-targets label j)) inner → Single q body j code)

  pub for-each-fits : (j : Targets) (s : Scope) (label : Option Identifier) (word : Span) (e : Expression) (array : TypedNode) (n : ℕ) (t : SourceType) (id : Identifier) (inner : CoreStmt)
      → Gives (EachAssigned j label array n t inner) (for_each_judged p k returning s label word e array n t id inner)
  for-each-fits j s label word e array n t id inner = behind-check (EachAssigned j label array n t inner) LocalTwice id.span _ _ (λ _. behind-need (EachAssigned j label array n t inner) BadForEach (written.span_of e) (element_type array.type) _ (λ element is.
      behind (λ from. EachStands q body p.heads known array n t → PassesAs q body p.heads t from) (EachAssigned j label array n t inner) (assigned p.heads t (written.span_of e) (each.element p.heads (written.span_of e) array n element)) _
      (Rattle.body_laws.proofs.Values.under (EachStands q body p.heads known array n t) (PassesAs q body p.heads t) (assigned p.heads t (written.span_of e) (each.element p.heads (written.span_of e) array n element))
      (λ stands. assigned_values_pass q body p.heads t (written.span_of e) (each.element p.heads (written.span_of e) array n element) known (element-few q body p.heads known (written.span_of e) array n t element stands is) stands.few
      (element-fits q body p.heads known (written.span_of e) array n t element stands is)))
      (λ from pass. (ap is_some is, λ stands f. (each-fits q body p.heads known (written.span_of e) array n t element stands is id.span word from inner (pass stands) j label f, refl)))))
