-- Statements fit where their parts do (JLS 14.9 to 14.20).
use Rattle.std.proofs.Common.{◌≡◌, ℕ, zero, suc, ◌≤◌, List, [], ◌∷◌, Option, Some, None, refl, sym, ap, ◌∙◌, subst, arith}
use Rattle.std.specs.Prelude.{Bool, true, false, is_some, slice_get}
use Rattle.std.specs.List.{All, list_all}
use Rattle.std.proofs.lemmas.List.Elements.{All-cons, All-nil}
use Rattle.std.proofs.lemmas.Option.{none-some}
use Rattle.je_base.specs.declared.span.NameId.{NameId}
use Rattle.je_base.specs.declared.span.Span.{Span}
use Rattle.je_core.specs.declared.types.Base.TheVariants as base
use Rattle.je_core.specs.declared.types.ClassId.{ClassId}
use Rattle.je_core.specs.declared.types.Ty.{Ty}
use Rattle.je_core.specs.Core.{Core, CoreCatches, CoreProgram, CoreStmt, MaybeStmt, a_stmt, catch, more_catches, no_catches, no_stmt, stmt, stmt_form_of, ty_of}
use Rattle.je_core.specs.Core as core
use Rattle.je_ast.specs.declared.name.Identifier.{Identifier}
use Rattle.je_classes.specs.Subtypes.{class_type, is_subtype, same_type}
use Rattle.je_fitting.specs.Expressions.{Body, Fits}
use Rattle.je_fitting.specs.Statements as fits
use Rattle.je_fitting.specs.Statements.{StatementFits, Targets, in_loop, is_loop_form, label_of, labelled_by}
use Rattle.je_fitting.specs.Types.{bool, is_bool, throwable}
use Rattle.je_fitting.specs.way.DecidingStatements.{can_jump, is_loop_label}
use Rattle.je_fitting.proofs.Booleans.{three, two}
use Rattle.je_scopes.specs.SourceTypes.{SourceType, no_source_types, of_class, of_variable, plain}
use Rattle.plain_programs.specs.Nodes.{every, every_expression, throughout_catches, throughout_if}
use Rattle.source_types.specs.Erasure.{class_numbered, erased}
use Rattle.source_types.specs.Heads.{ClassHead}
use Rattle.source_types.specs.Subtypes.{dims_of}
use Rattle.source_types.specs.Subtypes as source
use Rattle.header_typing.specs.Supers.{throwable_type}
use Rattle.je_typing.specs.declared.fault.TypeRule.TheVariants.{BadCatch, BadCondition, BadLabel, BadThrow, LocalTwice}
use Rattle.je_typing.specs.Conversions.{assigned}
use Rattle.je_typing.specs.Judged.{bind, gives}
use Rattle.je_typing.specs.Typed.{TypedNode, is_boolean}
use Rattle.statement_steps.specs.Conditions.{condition, do_loop, if_statement, loop_statement}
use Rattle.statement_steps.specs.Jumps.{jump, jump_span, labelled, name_if}
use Rattle.statement_steps.specs.Returns.{Returning, a_value, never, no_value, returned, returned_value}
use Rattle.statement_steps.specs.Thrown.{caught_class, class_named, thrown}
use Rattle.body_typing.specs.Catches.{Clause, clauses}
use Rattle.body_typing.specs.FinalVariables.{Scope}
use Rattle.typing_laws.specs.Correspondence.{HasHeads}
use Rattle.typing_laws.specs.Fitting.{FitsAs, Gives, stands_once, with_texts}
use Rattle.typing_laws.specs.Passing.{PassesAs}
use Rattle.typing_laws.proofs.Assigned.{assigned_values_pass}
use Rattle.typing_laws.proofs.Assignments.{agrees-itself, boolean-erased}
use Rattle.typing_laws.proofs.Subtypes.{subtypes_are_erased}
use Rattle.fitting_laws.specs.Values.{IsValue}
use Rattle.fitting_laws.proofs.Below.{subtype-texts}
use Rattle.fitting_laws.proofs.Gives.{behind, behind-check, behind-need}
use Rattle.fitting_laws.proofs.Instances.{erased-class-type}
use Rattle.fitting_laws.proofs.Sound.{type-dims}
use Rattle.body_laws.specs.Bodies.{Returns}
use Rattle.body_laws.specs.Fitting.{StatementFitsAs}

-- ---- what a step gives

-- a node of a condition
abbrev pub Tested : TypedNode → Core → Type 0
Tested t n = (is_boolean t.type ≡ true) × (t.node ≡ n)

tested : (at : Span) (t : TypedNode) → Gives (Tested t) (condition at t)
unfolding condition
tested at t = behind-check (Tested t) BadCondition at (is_boolean t.type) (gives t.node) (λ h. (h, refl))

-- a statement with a condition
abbrev pub WithTest : TypedNode → (Core → CoreStmt) → CoreStmt → Type 0
WithTest t f code = (is_boolean t.type ≡ true) × (f t.node ≡ code)

with-test : (at : Span) (t : TypedNode) (f : Core → CoreStmt) → Gives (WithTest t f) (bind (condition at t) (λ n. gives (f n)))
with-test at t f = behind (Tested t) (WithTest t f) (condition at t) (λ n. gives (f n)) (tested at t) (λ n h. (h.0, ap f h.1))

pub if-judged : (word at : Span) (t : TypedNode) (chosen : CoreStmt) (other : MaybeStmt) → Gives (WithTest t (λ n. stmt (core.If n chosen other) word word)) (if_statement word at t chosen other)
unfolding if_statement
if-judged word at t chosen other = with-test at t (λ n. stmt (core.If n chosen other) word word)

pub loop-judged : (word at : Span) (t : TypedNode) (steps : List Core) (inner : CoreStmt) → Gives (WithTest t (λ n. stmt (core.Loop n steps inner) word word)) (loop_statement word at t steps inner)
unfolding loop_statement
loop-judged word at t steps inner = with-test at t (λ n. stmt (core.Loop n steps inner) word word)

pub do-judged : (word at : Span) (inner : CoreStmt) (t : TypedNode) → Gives (WithTest t (λ n. stmt (core.DoLoop inner n) word word)) (do_loop word at inner t)
unfolding do_loop
do-judged word at inner t = with-test at t (λ n. stmt (core.DoLoop inner n) word word)

pub labelled-judged : (j : Targets) (id : Identifier) (inner : CoreStmt) → Gives (λ code. stmt (core.Labelled id.name inner) id.span id.span ≡ code) (labelled j id inner)
unfolding labelled
labelled-judged j id inner = behind-check (λ code. stmt (core.Labelled id.name inner) id.span id.span ≡ code) BadLabel id.span _ (gives (stmt (core.Labelled id.name inner) id.span id.span)) (λ h. refl)

-- ---- what fits

-- a statement that fits, and is no loop
abbrev pub Single : CoreProgram → Body → Targets → CoreStmt → Type 0
Single q body j c = StatementFitsAs q body j c × (is_loop_form (stmt_form_of c) ≡ false)

module _ (q : CoreProgram) (body : Body) (j : Targets) where
  break-fits : (o : Option Bool) (x : NameId) (word : Span) → label_of j.labels x ≡ o → is_some o ≡ true → StatementFits q body j (stmt (core.Jump false (Some x)) word word)
  break-fits (Some b) x word e h = fits.break_to e
  break-fits None x word e h = absurd cc

  continue-fits : (o : Option Bool) (x : NameId) (word : Span) → label_of j.labels x ≡ o → is_loop_label o ≡ true → StatementFits q body j (stmt (core.Jump true (Some x)) word word)
  continue-fits (Some true) x word e h = fits.continue_to e
  continue-fits (Some false) x word e h = absurd cc
  continue-fits None x word e h = absurd cc

  pub jump-fits : (again : Bool) (to : Option NameId) (word : Span) → can_jump j again to ≡ true → StatementFits q body j (stmt (core.Jump again to) word word)
  jump-fits false None word h = fits.break h
  jump-fits false (Some x) word h = break-fits (label_of j.labels x) x word refl h
  jump-fits true None word h = fits.continue h
  jump-fits true (Some x) word h = continue-fits (label_of j.labels x) x word refl h

module _ (q : CoreProgram) (body : Body) (heads : List ClassHead) (known : HasHeads q heads) where
  abbrev Statement : Targets → CoreStmt → Type 0
  Statement j c = StatementFitsAs q body j c

  abbrev pub MaybeFitsAs : Targets → MaybeStmt → Type 0
  MaybeFitsAs j c = (texts : List (List ℕ)) → throughout_if (stands_once texts) (λ f. true) c ≡ true → fits.MaybeFits (with_texts q texts) body j c

  pub no-statement : (j : Targets) → MaybeFitsAs j no_stmt
  no-statement j texts h = fits.no_statement

  pub a-statement : (j : Targets) (c : CoreStmt) → Statement j c → MaybeFitsAs j (a_stmt c)
  a-statement j c f texts h = fits.a_statement (f texts h)

  boolean : (t : TypedNode) → FitsAs q body heads t → is_boolean t.type ≡ true → is_bool (ty_of t.node) ≡ true
  boolean t f h = ap (λ (u : Ty). same_type u bool) f.type ∙ boolean-erased heads t.type h

  pub if-fits : (j : Targets) (word : Span) (t : TypedNode) (chosen : CoreStmt) (other : MaybeStmt) → FitsAs q body heads t → is_boolean t.type ≡ true → Statement j chosen → MaybeFitsAs j other
      → Statement j (stmt (core.If t.node chosen other) word word)
  if-fits j word t chosen other f h y n texts g = let s = three {a = every (stands_once texts) t.node} g in fits.if_then (f.node texts s.0) (boolean t f h) (y texts s.1) (n texts s.2)

  -- nodes that are performed one after the other
  abbrev pub StepsFit : List Core → Type 0
  StepsFit ns = (texts : List (List ℕ)) → list_all (every (stands_once texts)) ns ≡ true → All (Fits (with_texts q texts) body) ns

  pub no-steps : StepsFit []
  no-steps texts h = All-nil _

  pub one-step : (t : TypedNode) (ns : List Core) → FitsAs q body heads t → StepsFit ns → StepsFit (t.node ∷ ns)
  one-step t ns f s texts h = let k = two {a = every (stands_once texts) t.node} h in All-cons (Fits (with_texts q texts) body) t.node ns (f.node texts k.0) (s texts k.1)

  pub loop-fits : (j : Targets) (word : Span) (t : TypedNode) (steps : List Core) (inner : CoreStmt) → FitsAs q body heads t → is_boolean t.type ≡ true → StepsFit steps → Statement (in_loop j) inner
      → Statement j (stmt (core.Loop t.node steps inner) word word)
  loop-fits j word t steps inner f h ss i texts g = let s = three {a = every (stands_once texts) t.node} g in fits.loop (f.node texts s.0) (boolean t f h) (ss texts s.1) (i texts s.2)

  pub do-fits : (j : Targets) (word : Span) (inner : CoreStmt) (t : TypedNode) → Statement (in_loop j) inner → FitsAs q body heads t → is_boolean t.type ≡ true
      → Statement j (stmt (core.DoLoop inner t.node) word word)
  do-fits j word inner t i f h texts g = let s = two {a = every_expression (stands_once texts) inner} g in fits.do_loop (i texts s.0) (f.node texts s.1) (boolean t f h)

  pub labelled-fits : (j : Targets) (id : Identifier) (inner : CoreStmt) → Statement (labelled_by id.name inner j) inner → Statement j (stmt (core.Labelled id.name inner) id.span id.span)
  labelled-fits j id inner i texts g = fits.labelled (i texts g)

  -- ---- jumps

  pub jumps-fit : (j : Targets) (again : Bool) (word : Span) (to : Option Identifier) → Gives (Single q body j) (jump j again word to)
  unfolding jump
  jumps-fit j again word to = behind-check (Single q body j) BadLabel (jump_span word to) (can_jump j again (name_if to)) (gives (stmt (core.Jump again (name_if to)) word word))
      (λ h. ((λ texts g. jump-fits (with_texts q texts) body j again (name_if to) word h), refl))

  -- ---- returns

  pub returned-fits : (j : Targets) (r : Returning) (word : Span) → Returns body heads r → Gives (Single q body j) (returned r word)
  unfolding returned
  returned-fits j no_value word h = ((λ texts g. fits.return h fits.no_value), refl)
  returned-fits j never word h = tt
  returned-fits j (a_value t) word h = tt

  pub value-returned : (j : Targets) (r : Returning) (word at : Span) (from : TypedNode) → Returns body heads r → IsValue q body heads from → Gives (Single q body j) (returned_value heads r word at from)
  unfolding returned_value
  value-returned j never word at from h v = tt
  value-returned j no_value word at from h v = tt
  value-returned j (a_value t) word at from h v = behind (PassesAs q body heads t) (Single q body j) (assigned heads t at from) (λ n. gives (stmt (core.Return (Some n)) word word))
      (assigned_values_pass q body heads t at from known (type-dims q heads v.type) h.1 v.fits)
      (λ n p. ((λ texts g. fits.return h.0 (fits.a_value (p.node texts g) (p.agree texts))), refl))

  -- ---- what is thrown

  throwable-erased : erased heads throwable_type ≡ throwable
  throwable-erased = erased-class-type q heads known _ no_source_types

  below-throwable : (t : SourceType) → dims_of t ≤ 255 → source.is_subtype heads t throwable_type ≡ true → is_subtype q (erased heads t) throwable ≡ true
  below-throwable t few h = ap (is_subtype q (erased heads t)) (sym throwable-erased) ∙ subtypes_are_erased q heads known t throwable_type few (omega arith) h

  pub thrown-fits : (j : Targets) (word at : Span) (t : TypedNode) → IsValue q body heads t → Gives (Single q body j) (thrown heads word at t)
  unfolding thrown
  thrown-fits j word at t v = behind-check (Single q body j) BadThrow at (source.is_subtype heads t.type throwable_type) (gives (stmt (core.Throw t.node) word word))
      (λ h. ((λ texts g. fits.throw (v.fits.node texts g) (subtype-texts q texts (ty_of t.node) throwable ∙ ap (λ (u : Ty). is_subtype q u throwable) v.fits.type ∙ below-throwable t.type (type-dims q heads v.type) h)), refl))

  -- ---- JLS 14.20

  -- a clause whose local is there, and whose block fits
  pub record ClauseFits (j : Targets) (c : Clause) : Type 0 where
    pub there : slice_get body.locals c.number ≡ Some (erased heads c.type)
    pub block : Statement j c.body

  pub data ClausesFit (j : Targets) : List Clause → Type 0 where
    no_clauses : ClausesFit j []
    more_clauses : {c : Clause} {cs : List Clause} → ClauseFits j c → ClausesFit j cs → ClausesFit j (c ∷ cs)

  abbrev pub CatchesFitAs : Targets → CoreCatches → Type 0
  CatchesFitAs j cs = (texts : List (List ℕ)) → throughout_catches (stands_once texts) (λ f. true) cs ≡ true → fits.CatchesFit (with_texts q texts) body j cs

  data IsClass : SourceType → ClassId → Type 0 where
    is_class : (c : ℕ) (args : Rattle.je_scopes.specs.SourceTypes.SourceTypes) → IsClass (of_class c args 0) (class_numbered c)

  class-is : (t : SourceType) (c : ClassId) → class_named t ≡ Some c → IsClass t c
  class-is (of_class d args zero) c e = subst (IsClass (of_class d args 0)) (same-class e) (is_class d args)
    where
      class_or : Option ClassId → ClassId
      class_or (Some x) = x
      class_or None = c

      same-class : {a b : ClassId} → ◌≡◌ {A = Option ClassId} (Some a) (Some b) → a ≡ b
      same-class f = ap class_or f
  class-is (of_class d args (suc n)) c e = absurd (none-some c e)
  class-is (plain b n) c e = absurd (none-some c e)
  class-is (of_variable d at n) c e = absurd (none-some c e)

  abbrev Caught : SourceType → ClassId → Type 0
  Caught t c = (erased heads t ≡ class_type c) × (is_subtype q (class_type c) throwable ≡ true)

  caught-class : (t : SourceType) (c : ClassId) → IsClass t c → source.is_subtype heads t throwable_type ≡ true → Caught t c
  caught-class _ _ (is_class d args) h = let e = erased-class-type q heads known d args in
      (e, ap (λ (u : Ty). is_subtype q u throwable) (sym e) ∙ below-throwable (of_class d args 0) (omega arith) h)

  caught : (at : Span) (t : SourceType) → Gives (Caught t) (caught_class heads at t)
  unfolding caught_class
  caught at t = behind-need (Caught t) BadCatch at (class_named t) _ (λ c e. behind-check (Caught t) BadCatch at (source.is_subtype heads t throwable_type) (gives c) (λ h. caught-class t c (class-is t c e) h))

  one-catch : (j : Targets) (c : Clause) (class : ClassId) (cs : CoreCatches) → ClauseFits j c → Caught c.type class → CatchesFitAs j cs → CatchesFitAs j (more_catches (catch c.number class c.name_span c.body) cs)
  one-catch j c class cs f h rest texts g = let s = two {a = every_expression (stands_once texts) c.body} g in
      fits.one_more_catch (f.there ∙ ap Some h.0) (agrees-itself (with_texts q texts) (base.Class class) 0 refl) (subtype-texts q texts (class_type class) throwable ∙ h.1) (f.block texts s.0) (rest texts s.1)

  pub clauses-fit : (j : Targets) (s : Scope) (cs : List Clause) → ClausesFit j cs → Gives (CatchesFitAs j) (clauses heads s cs)
  clauses-fit j s _ no_clauses = λ texts g. fits.no_more_catches
  clauses-fit j s _ (more_clauses {c = c} {cs = cs} f fs) = behind-check (CatchesFitAs j) LocalTwice c.name.span _ _ (λ _.
      behind (Caught c.type) (CatchesFitAs j) (caught_class heads c.name_span c.type) _ (caught c.name_span c.type)
      (λ class h. behind (CatchesFitAs j) (CatchesFitAs j) (clauses heads s cs) _ (clauses-fit j s cs fs) (λ rest r. one-catch j c class rest f h r)))
