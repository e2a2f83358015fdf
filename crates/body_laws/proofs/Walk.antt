-- The walk over a body gives what fits.
use Rattle.std.proofs.Common.{◌≡◌, ℕ, ◌+◌, List, [], ◌∷◌, Option, Some, None, refl, sym, ap, ◌∙◌, subst, arith}
use Rattle.std.specs.Prelude.{Bool, true, false, ◌&&◌, not, length, ◌<◌, is_some, slice_get, if◌then◌else◌}
use Rattle.std.specs.List.{All}
use Rattle.std.proofs.lemmas.List.{length-append}
use Rattle.std.proofs.lemmas.List.Elements.{All-append, All-nil}
use Rattle.std.proofs.lemmas.Option.{none-some}
use Rattle.je_base.specs.declared.span.NameId.{NameId}
use Rattle.je_base.specs.declared.span.Span.{Span}
use Rattle.je_core.specs.declared.types.Base.TheVariants as base
use Rattle.je_core.specs.Core.{Core, CoreCatches, CoreProgram, CoreStmt, MaybeStmt, a_stmt, no_stmt, stmt, stmt_form_of}
use Rattle.je_core.specs.Core as core
use Rattle.je_ast.specs.declared.name.Identifier.{Identifier}
use Rattle.je_ast.specs.Spans as written
use Rattle.je_ast.specs.Trees.{Catches, Declaration, Expression, Expressions, ForInitializer, Groups, Labels, MaybeExpression, Statement, Statements, Variables}
use Rattle.je_ast.specs.Trees as tree
use Rattle.je_ast.specs.Types.{QualifiedName, TypeName}
use Rattle.je_classes.specs.Members.{first as at_first}
use Rattle.je_fitting.specs.Expressions.{Body}
use Rattle.je_fitting.specs.Expressions as nodes
use Rattle.je_fitting.specs.Statements as fits
use Rattle.je_fitting.specs.Statements.{Targets, in_loop, in_switch, is_loop_form}
use Rattle.je_fitting.specs.Types.{is_variable_type, of}
use Rattle.je_fitting.proofs.Booleans.{three}
use Rattle.je_scopes.specs.Headers.{declared_name}
use Rattle.je_scopes.specs.SourceTypes.{SourceType}
use Rattle.plain_programs.specs.Nodes.{every_expression, throughout_catches}
use Rattle.source_types.specs.Erasure.{erased}
use Rattle.header_typing.specs.WrittenTypes.{span_of}
use Rattle.je_typing.specs.declared.fault.TypeRule.TheVariants.{LocalTwice}
use Rattle.je_typing.specs.Judged.{Judged, bind, faulty, gives}
use Rattle.je_typing.specs.Typed.{TypedNode, element_type, primitive_type}
use Rattle.name_typing.specs.Program.{Program}
use Rattle.body_types.specs.BodyTypes.{bare_type, body_type}
use Rattle.statement_steps.specs.Conditions.{do_loop, if_statement, loop_statement}
use Rattle.statement_steps.specs.Jumps.{jump, labelled}
use Rattle.statement_steps.specs.Returns.{Returning, returned, returned_value}
use Rattle.statement_steps.specs.Thrown.{thrown}
use Rattle.body_typing.specs.Bodies as bodies
use Rattle.body_typing.specs.Bodies.{Done, Met, Progress, alone, block_of, first_of, followed, local_of, next_number, no_name, nothing_done, one, performed, with_classes_of, with_local, with_local_class, with_met, with_number}
use Rattle.body_typing.specs.Catches.{Clause, caught_name, clauses}
use Rattle.body_typing.specs.Expressions.{Known, expression, read}
use Rattle.body_typing.specs.FinalVariables.{Scope}
use Rattle.body_typing.specs.LocalClasses.{class_declared_at, local_class}
use Rattle.body_typing.specs.LocalVariables.{variables}
use Rattle.body_typing.specs.Statements.{GroupsDone, ListDone, catches, clause, condition_or, condition_span, behind_if, for_code, for_each_judged, for_start, groups, in_label, is_for, is_loop, label_or_inside, labelled_code, locals, one_more as one_more_item, one_more_group, performed_steps, return_judged, statement, statements, steps, switch_judged, try_code, valued, with_element, with_hidden}
use Rattle.body_typing.specs.Switches.{enum_of, labels, selected_by}
use Rattle.typing_laws.specs.Fitting.{FitsAs, Gives, stands_once}
use Rattle.typing_laws.proofs.Nodes.{erased-plain}
use Rattle.fitting_laws.specs.Methods.{HasMethods}
use Rattle.fitting_laws.specs.Represented.{Represents}
use Rattle.fitting_laws.specs.Sound.{IsSound}
use Rattle.fitting_laws.specs.Values.{IsValue}
use Rattle.fitting_laws.proofs.Gives.{behind, behind-check, behind-given, weaker}
use Rattle.fitting_laws.proofs.Sound.{sound-dims, sound-variable}
use Rattle.fitting_laws.proofs.Walk.{bare-sound}
use Rattle.body_laws.specs.Bodies.{BodyStands, IsInBody, Returns}
use Rattle.body_laws.specs.Fitting.{DoneFits, EachFits, StatementFitsAs, none_fits, one_fits}
use Rattle.body_laws.specs.Laws.{BodiesFit, LocalsAreTyped}
use Rattle.body_laws.specs.Written.{LabelsAreWritten, AllAreWritten, BodyIsWritten, CatchesAreWritten, GroupsAreWritten, IsWritten, IsWrittenIf, StartIsWritten, StatementIsWritten, VariablesAreWritten}
use Rattle.body_laws.proofs.Declared.{Claim, all-fit, loops, sound-value, variables-fit}
use Rattle.body_laws.proofs.Grows.{Knows, met-there, number-there}
use Rattle.body_laws.proofs.Typed.{Grown, before, grows-met, grows-not, grows-number, on, under-claim}
use Rattle.body_laws.proofs.Loops.{EachAssigned, array-variable, EachStands, for-each-fits, for-fits, loop-targets}
use Rattle.body_laws.proofs.Scopes.{with-class, with-classes-of, with-local}
use Rattle.body_laws.proofs.Steps.{CatchesFitAs, ClausesFit, MaybeFitsAs, Single, StepsFit, WithTest, a-statement, clauses-fit, do-fits, do-judged, if-fits, if-judged, jumps-fit, labelled-fits, labelled-judged, loop-fits, loop-judged, more_clauses, no-statement, no-steps, no_clauses, one-step, returned-fits, thrown-fits, value-returned}
use Rattle.body_laws.proofs.Switches.{EachGroup, LabelsClaim, labels-fit, no_group, one_group, parts-fit, selected, switch-fits}
use Rattle.body_laws.proofs.Values.{Used, performed-fits, read-fits, under, valued-fits}

pub any : {A : Type 0} (j : Judged A) → Gives (λ a. Unit {0}) j
any (gives a) = tt
any (faulty fault) = tt

-- ---- where a statement stands behind its label: a `for` has it at its loop, within

abbrev inside : Option Identifier → Statement → Targets → Targets
inside None b j = j
inside (Some id) b j = in_label id b j

abbrev around : Option Identifier → Statement → Targets → Targets
around None b j = j
around (Some id) b j = if is_for b then j else in_label id b j

-- a loop that isn't `for`
abbrev is_direct : Statement → Bool
is_direct b = is_loop b && not (is_for b)

plainly : (label : Option Identifier) (b : Statement) (j : Targets) → is_for b ≡ false → inside label b j ≡ around label b j
plainly None b j e = refl
plainly (Some id) b j e = ap (λ (x : Bool). if x then j else in_label id b j) (sym e)

direct-loop : (b : Statement) → is_for b ≡ false → is_direct b ≡ is_loop b
direct-loop b e = ap (λ (x : Bool). is_loop b && not x) e ∙ and-true (is_loop b)
  where
    and-true : (x : Bool) → (x && true) ≡ x
    and-true true = refl
    and-true false = refl

module _ (p : Program) (k : Known) (q : CoreProgram) (body : Body) (first : Scope) (met : List Met) (returning : Returning) (represents : Represents p q) (has : HasMethods p q) (known : BodyStands p k q body first met) (result : Returns body p.heads returning) where
  abbrev InBody : Scope → Type 0
  InBody s = IsInBody p k q body first s

  abbrev Knowing : Progress → Type 0
  Knowing pr = Knows body met pr

  -- what grows where a scope stands
  abbrev Grew : Scope → Progress → Progress → Type 0
  Grew s = Grown q body met (InBody s)

  abbrev Fit : Targets → CoreStmt → Type 0
  Fit j c = StatementFitsAs q body j c

  abbrev Finished : Targets → Done → Type 0
  Finished j d = DoneFits p k q body first j d

  -- what statements come to, from a scope on
  abbrev pub Block : Targets → Scope → Progress → Done → Type 0
  Block j s pr d = Grew s pr d.progress × (Knowing d.progress → InBody s → Finished j d)

  -- what one comes to, which is a loop or not
  abbrev Single-done : Targets → Scope → Progress → Bool → Done → Type 0
  Single-done j s pr l d = Grew s pr d.progress × (Knowing d.progress → InBody s → Finished j d × (loops d.code ≡ l))

  abbrev Valued : Scope → Expression → Progress → TypedNode → Type 0
  Valued s e pr t = Knowing (bodies.behind p s e pr) × InBody s → Used p k q body first met represents has known t

  value-of : (s : Scope) (e : Expression) (pr : Progress) → IsWritten e → Gives (Valued s e pr) (valued p k returning s e)
  value-of s e pr lengths = valued-fits p k q body first met represents has known s e pr lengths

  after : (s : Scope) (e : Expression) (pr : Progress) → Grew s pr (bodies.behind p s e pr)
  after s e pr = grows-met (bodies.met_in_expression p s e) pr

  -- ---- one statement

  one-done : (j : Targets) (code : CoreStmt) (s : Scope) (pr : Progress) → Fit j code → InBody s → Finished j (one code s pr)
  one-done j code s pr f h = record { code = one_fits f none_fits; numbers = All-nil _; scope = h }

  single : (j : Targets) (code : CoreStmt) (s : Scope) (pr : Progress) → Single q body j code → InBody s → Finished j (one code s pr) × (loops (one code s pr).code ≡ false)
  single j code s pr f h = (one-done j code s pr f.0 h, f.1)

  alone-fits : (j : Targets) (cs : List CoreStmt) → EachFits q body j cs → Fit j (first_of cs)
  alone-fits j _ none_fits = λ texts g. fits.empty
  alone-fits j _ (one_fits f fs) = f

  pub block-fits : (j : Targets) (opening closing : Span) (d : Done) → Finished j d → Fit j (block_of opening closing d)
  block-fits j opening closing d f texts g = fits.block f.numbers (parts-fit f.code texts g)

  blocked : (j : Targets) (s : Scope) (pr : Progress) (opening closing : Span) (sub : Judged Done) → Gives (Block j s pr) sub → Gives (Single-done j s pr false) (bind sub (λ d. gives (one (block_of opening closing d) s d.progress)))
  blocked j s pr opening closing sub x = behind (Block j s pr) (Single-done j s pr false) sub (λ d. gives (one (block_of opening closing d) s d.progress)) x
      (λ d y. (y.0, λ knows h. (one-done j (block_of opening closing d) s d.progress (block-fits j opening closing d (y.1 knows h)) h, refl)))

  expressed : (j : Targets) (s : Scope) (pr : Progress) (start : Span) (e : Expression) → IsWritten e → Gives (Single-done j s pr false) (bind (expression p k s read e) (λ t. gives (one (performed start t.node) s (bodies.behind p s e pr))))
  expressed j s pr start e lengths = behind (λ t. Knowing (bodies.behind p s e pr) × InBody s → IsValue q body p.heads t) (Single-done j s pr false) (expression p k s read e) (λ t. gives (one (performed start t.node) s (bodies.behind p s e pr)))
      (read-fits p k q body first met represents has known s e pr lengths)
      (λ t v. (after s e pr, λ knows h. (one-done j (performed start t.node) s (bodies.behind p s e pr) (performed-fits q body j start t.node (v (knows, h)).fits.node) h, refl)))

  declares : (j : Targets) (s : Scope) (pr : Progress) (is_final : Bool) (start : Span) (t : TypeName) (vs : Variables) → VariablesAreWritten vs → Gives (Single-done j s pr false) (locals p k returning s pr is_final start t vs)
  declares j s pr is_final start t vs lengths = behind-given (λ u. Unit {0}) (Single-done j s pr false) (body_type p s.place.here t) (λ of. variables p k is_final start t of s pr vs) (any (body_type p s.place.here t))
      (λ of e _. weaker (Claim p k q body first met represents has known is_final start t of j s pr of) (Single-done j s pr false) (variables p k is_final start t of s pr vs)
      (variables-fit p k q body first met represents has known is_final start t of j s pr vs lengths)
      (λ d y. (under-claim (λ knows h. (h, known.types s t of h e)) y.0, λ knows h. (y.1 knows h (known.types s t of h e), y.2))))

  classed : (j : Targets) (s : Scope) (pr : Progress) (id : Identifier) → Gives (Single-done j s pr false) (local_class p s pr id)
  unfolding local_class
  classed j s pr id = behind-check (Single-done j s pr false) LocalTwice id.span _ _
      (λ _. (
        grows-met (bodies.stands (class_declared_at p id) (with_local_class (class_declared_at p id) s) ∷ []) pr,
        λ knows h. (
          record {
            code = none_fits;
            numbers = All-nil _;
            scope = with-class p k q body first represents (class_declared_at p id) (known.classes (class_declared_at p id) (with_local_class (class_declared_at p id) s) (met-there (bodies.stands (class_declared_at p id) (with_local_class (class_declared_at p id) s) ∷ []) pr knows _ at_first)) s h;
          },
          refl,
        ),
      ))

  -- ---- JLS 14.7

  labels-it : (j : Targets) (s : Scope) (pr : Progress) (id : Identifier) (b : Statement) (sub : Judged Done) → Gives (Single-done (around (Some id) b j) s pr (is_direct b)) sub
      → Gives (Single-done j s pr false) (bind sub (λ d. bind (labelled_code p k returning j id b (alone d)) (λ code. gives (one code s d.progress))))
  labels-it j s pr id b sub x = behind (Single-done (around (Some id) b j) s pr (is_direct b)) (Single-done j s pr false) sub _ x (λ d y.
      behind (λ code. label_or_inside b (stmt (core.Labelled id.name (alone d)) id.span id.span) (alone d) ≡ code) (Single-done j s pr false) (labelled_code p k returning j id b (alone d)) (λ code. gives (one code s d.progress))
      (behind (λ whole. stmt (core.Labelled id.name (alone d)) id.span id.span ≡ whole) (λ code. label_or_inside b (stmt (core.Labelled id.name (alone d)) id.span id.span) (alone d) ≡ code) (labelled j id (alone d)) _ (labelled-judged j id (alone d))
      (λ whole e. ap (λ (c : CoreStmt). label_or_inside b c (alone d)) e))
      (λ code e. (y.0, λ knows h. single j code s d.progress (subst (Single q body j) e (by d (y.1 knows h) (is_for b) refl)) h)))
    where
      by : (d : Done) → Finished (around (Some id) b j) d × (loops d.code ≡ is_direct b) → (f : Bool) → is_for b ≡ f → Single q body j (if is_for b then alone d else stmt (core.Labelled id.name (alone d)) id.span id.span)
      by d z true e = subst (λ (x : Bool). Single q body j (if x then alone d else stmt (core.Labelled id.name (alone d)) id.span id.span)) (sym e)
          (subst (λ (i : Targets). Fit i (alone d)) (ap (λ (x : Bool). if x then j else in_label id b j) e) (alone-fits (around (Some id) b j) d.code z.0.code), z.1 ∙ ap (λ (x : Bool). is_loop b && not x) e ∙ and-false (is_loop b))
        where
          and-false : (x : Bool) → (x && false) ≡ false
          and-false true = refl
          and-false false = refl
      by d z false e = subst (λ (x : Bool). Single q body j (if x then alone d else stmt (core.Labelled id.name (alone d)) id.span id.span)) (sym e) (
        labelled-fits q body p.heads represents.heads j id (alone d) (subst (λ (l : Bool). Fit (record j { labels = record { name = id.name; is_loop = l } ∷ j.labels }) (alone d)) (sym (z.1 ∙ direct-loop b e))
            (subst (λ (i : Targets). Fit i (alone d)) (ap (λ (x : Bool). if x then j else in_label id b j) e) (alone-fits (around (Some id) b j) d.code z.0.code))),
        refl,
      )

  -- ---- conditions

  no-loop : {c : CoreStmt} (code : CoreStmt) (l : Bool) → is_loop_form (stmt_form_of c) ≡ l → c ≡ code → is_loop_form (stmt_form_of code) ≡ l
  no-loop code l e f = sym (ap (λ (x : CoreStmt). is_loop_form (stmt_form_of x)) f) ∙ e

  if-only : (j : Targets) (s : Scope) (pr : Progress) (word : Span) (c : Expression) (l : Bool) (sub : Judged Done) → IsWritten c → Gives (Single-done j s (bodies.behind p s c pr) l) sub
      → Gives (Single-done j s pr false) (bind (valued p k returning s c) (λ t. bind sub (λ chosen. bind (if_statement word (written.span_of c) t (alone chosen) no_stmt) (λ code. gives (one code s chosen.progress)))))
  if-only j s pr word c l sub lengths x = behind (Valued s c pr) (Single-done j s pr false) (valued p k returning s c) _ (value-of s c pr lengths) (λ t v.
      behind (Single-done j s (bodies.behind p s c pr) l) (Single-done j s pr false) sub _ x (λ chosen y.
      behind (WithTest t (λ n. stmt (core.If n (alone chosen) no_stmt) word word)) (Single-done j s pr false) (if_statement word (written.span_of c) t (alone chosen) no_stmt) (λ code. gives (one code s chosen.progress))
      (if-judged word (written.span_of c) t (alone chosen) no_stmt)
      (λ code z. (
        on (after s c pr) y.0,
        λ knows h. single j code s chosen.progress (
          subst (Fit j) z.1
              (if-fits q body p.heads represents.heads j word t (alone chosen) no_stmt (v (before y.0 knows, h)).0.fits z.0 (alone-fits j chosen.code (y.1 knows h).0.code) (no-statement q body p.heads represents.heads j)),
          no-loop code false refl z.1,
        ) h,
      ))))

  if-else : (j : Targets) (s : Scope) (pr : Progress) (word : Span) (c : Expression) (l m : Bool) (sub : Judged Done) (further : Progress → Judged Done) → IsWritten c → Gives (Single-done j s (bodies.behind p s c pr) l) sub
      → ((at : Progress) → Gives (Single-done j s at m) (further at))
      → Gives (Single-done j s pr false) (bind (valued p k returning s c) (λ t. bind sub (λ chosen. bind (further chosen.progress) (λ other. bind (if_statement word (written.span_of c) t (alone chosen) (a_stmt (alone other))) (λ code. gives (one code s other.progress))))))
  if-else j s pr word c l m sub further lengths x u = behind (Valued s c pr) (Single-done j s pr false) (valued p k returning s c) _ (value-of s c pr lengths) (λ t v.
      behind (Single-done j s (bodies.behind p s c pr) l) (Single-done j s pr false) sub _ x (λ chosen y.
      behind (Single-done j s chosen.progress m) (Single-done j s pr false) (further chosen.progress) _ (u chosen.progress) (λ other w.
      behind (WithTest t (λ n. stmt (core.If n (alone chosen) (a_stmt (alone other))) word word)) (Single-done j s pr false) (if_statement word (written.span_of c) t (alone chosen) (a_stmt (alone other))) (λ code. gives (one code s other.progress))
      (if-judged word (written.span_of c) t (alone chosen) (a_stmt (alone other)))
      (λ code z. (
        on (after s c pr) (on y.0 w.0),
        λ knows h. let early = before w.0 knows in single j code s other.progress (
          subst (Fit j) z.1
              (if-fits q body p.heads represents.heads j word t (alone chosen) (a_stmt (alone other)) (v (before y.0 early, h)).0.fits z.0 (alone-fits j chosen.code (y.1 early h).0.code)
              (a-statement q body p.heads represents.heads j (alone other) (alone-fits j other.code (w.1 knows h).0.code))),
          no-loop code false refl z.1,
        ) h,
      )))))

  while-loop : (j : Targets) (s : Scope) (pr : Progress) (word : Span) (c : Expression) (l : Bool) (sub : Judged Done) → IsWritten c → Gives (Single-done (in_loop j) s (bodies.behind p s c pr) l) sub
      → Gives (Single-done j s pr true) (bind (valued p k returning s c) (λ t. bind sub (λ d. bind (loop_statement word (written.span_of c) t [] (alone d)) (λ code. gives (one code s d.progress)))))
  while-loop j s pr word c l sub lengths x = behind (Valued s c pr) (Single-done j s pr true) (valued p k returning s c) _ (value-of s c pr lengths) (λ t v.
      behind (Single-done (in_loop j) s (bodies.behind p s c pr) l) (Single-done j s pr true) sub _ x (λ d y.
      behind (WithTest t (λ n. stmt (core.Loop n [] (alone d)) word word)) (Single-done j s pr true) (loop_statement word (written.span_of c) t [] (alone d)) (λ code. gives (one code s d.progress)) (loop-judged word (written.span_of c) t [] (alone d))
      (λ code z. (
        on (after s c pr) y.0,
        λ knows h. (
          one-done j code s d.progress (subst (Fit j) z.1
              (loop-fits q body p.heads represents.heads j word t [] (alone d) (v (before y.0 knows, h)).0.fits z.0 (no-steps q body p.heads represents.heads) (alone-fits (in_loop j) d.code (y.1 knows h).0.code))) h,
          no-loop code true refl z.1,
        ),
      ))))

  do-while : (j : Targets) (s : Scope) (pr : Progress) (word : Span) (c : Expression) (l : Bool) (sub : Judged Done) → IsWritten c → Gives (Single-done (in_loop j) s pr l) sub
      → Gives (Single-done j s pr true) (bind sub (λ d. bind (valued p k returning s c) (λ t. bind (do_loop word (written.span_of c) (alone d) t) (λ code. gives (one code s (bodies.behind p s c d.progress))))))
  do-while j s pr word c l sub lengths x = behind (Single-done (in_loop j) s pr l) (Single-done j s pr true) sub _ x (λ d y.
      behind (Valued s c d.progress) (Single-done j s pr true) (valued p k returning s c) _ (value-of s c d.progress lengths) (λ t v.
      behind (WithTest t (λ n. stmt (core.DoLoop (alone d) n) word word)) (Single-done j s pr true) (do_loop word (written.span_of c) (alone d) t) (λ code. gives (one code s (bodies.behind p s c d.progress))) (do-judged word (written.span_of c) (alone d) t)
      (λ code z. (
        on y.0 (after s c d.progress),
        λ knows h. (
          one-done j code s (bodies.behind p s c d.progress) (subst (Fit j) z.1
              (do-fits q body p.heads represents.heads j word (alone d) t (alone-fits (in_loop j) d.code (y.1 (before (after s c d.progress) knows) h).0.code) (v (knows, h)).0.fits z.0)) h,
          no-loop code true refl z.1,
        ),
      ))))

  -- ---- JLS 14.14.1

  performs : (j : Targets) (s : Scope) (pr : Progress) (es : Expressions) → AllAreWritten es → Gives (Block j s pr) (performed_steps p k returning s pr es)
  performs j s pr tree.no_expressions lengths = (grows-not pr, λ knows h. record { code = none_fits; numbers = All-nil _; scope = h })
  performs j s pr (tree.more_expressions e es) lengths = behind (λ t. Knowing (bodies.behind p s e pr) × InBody s → IsValue q body p.heads t) (Block j s pr) (expression p k s read e) _ (read-fits p k q body first met represents has known s e pr lengths.0)
      (λ t v. behind (Block j s (bodies.behind p s e pr)) (Block j s pr) (performed_steps p k returning s (bodies.behind p s e pr) es) _ (performs j s (bodies.behind p s e pr) es lengths.1)
      (λ rest y. (
        on (after s e pr) y.0,
        λ knows h. let more = y.1 knows h in record {
          code = one_fits (performed-fits q body j (written.span_of e) t.node (v (before y.0 knows, h)).fits.node) more.code;
          numbers = more.numbers;
          scope = more.scope;
        },
      )))

  begins : (j : Targets) (s : Scope) (pr : Progress) (start : ForInitializer) → StartIsWritten start → Gives (Block j s pr) (for_start p k returning s pr start)
  begins j s pr (tree.locals is_final t vs) lengths = weaker (Single-done j s pr false) (Block j s pr) (locals p k returning s pr is_final (span_of t) t vs) (declares j s pr is_final (span_of t) t vs lengths)
      (λ d y. (y.0, λ knows h. (y.1 knows h).0))
  begins j s pr (tree.steps es) lengths = performs j s pr es lengths

  after-if : (s : Scope) (c : MaybeExpression) (pr : Progress) → Grew s pr (behind_if p k returning s c pr)
  after-if s tree.no_expression pr = grows-not pr
  after-if s (tree.an_expression c) pr = after s c pr

  abbrev Conditional : Scope → MaybeExpression → Progress → TypedNode → Type 0
  Conditional s c pr t = Knowing (behind_if p k returning s c pr) × InBody s → FitsAs q body p.heads t

  conditions : (s : Scope) (word : Span) (c : MaybeExpression) (pr : Progress) → IsWrittenIf c → Gives (Conditional s c pr) (condition_or p k returning s word c)
  conditions s word tree.no_expression pr lengths = λ h. record { node = λ texts g. nodes.const refl (All-nil _); uses = All-nil _; type = sym (erased-plain p.heads base.Bool) }
  conditions s word (tree.an_expression c) pr lengths = weaker (Valued s c pr) (Conditional s (tree.an_expression c) pr) (valued p k returning s c) (value-of s c pr lengths) (λ t v h. (v h).0.fits)

  abbrev Stepped : Scope → Progress → ListDone Core → Type 0
  Stepped s pr l = Grew s pr l.progress × (Knowing l.progress → InBody s → StepsFit q body p.heads represents.heads l.items)

  steps-there : (s : Scope) (pr : Progress) (es : Expressions) → AllAreWritten es → Gives (Stepped s pr) (steps p k returning s pr es)
  steps-there s pr tree.no_expressions lengths = (grows-not pr, λ knows h. no-steps q body p.heads represents.heads)
  steps-there s pr (tree.more_expressions e es) lengths = behind (λ t. Knowing (bodies.behind p s e pr) × InBody s → IsValue q body p.heads t) (Stepped s pr) (expression p k s read e) _ (read-fits p k q body first met represents has known s e pr lengths.0)
      (λ t v. behind (Stepped s (bodies.behind p s e pr)) (Stepped s pr) (steps p k returning s (bodies.behind p s e pr) es) _ (steps-there s (bodies.behind p s e pr) es lengths.1)
      (λ rest y. (on (after s e pr) y.0, λ knows h. one-step q body p.heads represents.heads t rest.items (v (before y.0 knows, h)).fits (y.1 knows h))))

  grown-on : (s : Scope) (c : MaybeExpression) (pr : Progress) {a b : Progress} → Grew s (behind_if p k returning s c pr) a → Grew s a b → Grew s pr b
  grown-on s c pr g h = on (after-if s c pr) (on g h)

  for-loop : (j : Targets) (label : Option Identifier) (s : Scope) (pr : Progress) (word : Span) (start : ForInitializer) (c : MaybeExpression) (es : Expressions) (l : Bool) (sub : Scope → Progress → Judged Done)
      → StartIsWritten start → IsWrittenIf c → AllAreWritten es → ((at : Scope) (from : Progress) → Gives (Single-done (in_loop (loop-targets label j)) at from l) (sub at from))
      → Gives (Single-done j s pr false) (bind (for_start p k returning s pr start) (λ begun. bind (condition_or p k returning begun.scope word c) (λ t. bind (steps p k returning begun.scope (behind_if p k returning begun.scope c begun.progress) es) (λ further.
      bind (sub begun.scope further.progress) (λ d. bind (loop_statement word (condition_span p k returning word c) t further.items (alone d)) (λ loop. gives (one (for_code p k returning label word begun loop) s d.progress)))))))
  for-loop j label s pr word start c es l sub starts tests turns x = behind (Block j s pr) (Single-done j s pr false) (for_start p k returning s pr start) _ (begins j s pr start starts) (λ begun b.
      behind (Conditional begun.scope c begun.progress) (Single-done j s pr false) (condition_or p k returning begun.scope word c) _ (conditions begun.scope word c begun.progress tests) (λ t v.
      behind (Stepped begun.scope (behind_if p k returning begun.scope c begun.progress)) (Single-done j s pr false) (steps p k returning begun.scope (behind_if p k returning begun.scope c begun.progress) es) _ (steps-there begun.scope (behind_if p k returning begun.scope c begun.progress) es turns) (λ further u.
      behind (Single-done (in_loop (loop-targets label j)) begun.scope further.progress l) (Single-done j s pr false) (sub begun.scope further.progress) _ (x begun.scope further.progress) (λ d y.
      behind (WithTest t (λ n. stmt (core.Loop n further.items (alone d)) word word)) (Single-done j s pr false) (loop_statement word (condition_span p k returning word c) t further.items (alone d)) (λ loop. gives (one (for_code p k returning label word begun loop) s d.progress))
      (loop-judged word (condition_span p k returning word c) t further.items (alone d))
      (λ loop z. (
        on b.0 (under-claim (λ knows h. (b.1 (before (grown-on begun.scope c begun.progress u.0 y.0) knows) h).scope)
            (grown-on begun.scope c begun.progress u.0 y.0)),
        λ knows h.
            let behind-steps = before y.0 knows in
            let behind-test = before u.0 behind-steps in
            let first-done = b.1 (before (after-if begun.scope c begun.progress) behind-test) h in (
              one-done j (for_code p k returning label word begun loop) s d.progress (for-fits q body p.heads represents.heads j label word p k returning begun loop first-done.code first-done.numbers (no-loop loop true refl z.1)
                  (subst (Fit (loop-targets label j)) z.1 (loop-fits q body p.heads represents.heads (loop-targets label j) word t further.items (alone d) (v (behind-test, first-done.scope)) z.0 (u.1 behind-steps first-done.scope)
                  (alone-fits (in_loop (loop-targets label j)) d.code (y.1 knows first-done.scope).0.code)))) h,
              refl,
            ),
      ))))))

  -- ---- JLS 14.11

  abbrev Grouped : Targets → Scope → Progress → GroupsDone → Type 0
  Grouped j s pr gs = Grew s pr gs.progress × (Knowing gs.progress → InBody s → EachGroup q body p.heads j gs.groups × All (λ n. n < length body.locals) gs.numbers)

  switches : (j : Targets) (s : Scope) (pr : Progress) (word span : Span) (e : Expression) (sub : Option ℕ → Judged GroupsDone) → IsWritten e → ((o : Option ℕ) → Gives (Grouped (in_switch j) s (bodies.behind p s e pr)) (sub o))
      → Gives (Single-done j s pr false) (bind (valued p k returning s e) (λ t. bind (sub (enum_of p.heads t.type)) (λ ds. bind (switch_judged p k returning word span e (selected_by (enum_of p.heads t.type) t) ds) (λ code. gives (one code s ds.progress)))))
  switches j s pr word span e sub lengths x = behind (Valued s e pr) (Single-done j s pr false) (valued p k returning s e) _ (value-of s e pr lengths) (λ t v.
      behind (Grouped (in_switch j) s (bodies.behind p s e pr)) (Single-done j s pr false) (sub (enum_of p.heads t.type)) _ (x (enum_of p.heads t.type)) (λ ds y.
      behind (λ code. Stands t ds → Single q body j code) (Single-done j s pr false) (switch_judged p k returning word span e (selected_by (enum_of p.heads t.type) t) ds) (λ code. gives (one code s ds.progress))
      (under (Stands t ds) (Single q body j) (switch_judged p k returning word span e (selected_by (enum_of p.heads t.type) t) ds)
      (λ h. switch-fits p k returning q body j word span e (selected_by (enum_of p.heads t.type) t) ds h.0 h.1 h.2))
      (λ code z. (
        on (after s e pr) y.0,
        λ knows h. let gs = y.1 knows h in
            single j code s ds.progress (z (selected p k q body first met represents has known t (enum_of p.heads t.type) refl (v (before y.0 knows, h)).0.fits, gs.1, gs.0)) h,
      ))))
    where
      Stands : TypedNode → GroupsDone → Type 0
      Stands t ds = FitsAs q body p.heads (selected_by (enum_of p.heads t.type) t) × All (λ n. n < length body.locals) ds.numbers × EachGroup q body p.heads (in_switch j) ds.groups

  -- ---- JLS 14.15 to 14.18

  jumps : (j : Targets) (s : Scope) (pr : Progress) (again : Bool) (word : Span) (to : Option Identifier) → Gives (Single-done j s pr false) (bind (jump j again word to) (λ code. gives (one code s pr)))
  jumps j s pr again word to = behind (Single q body j) (Single-done j s pr false) (jump j again word to) (λ code. gives (one code s pr)) (jumps-fit q body p.heads represents.heads j again word to)
      (λ code f. (grows-not pr, λ knows h. single j code s pr f h))

  abbrev Ended : Targets → Scope → MaybeExpression → Progress → CoreStmt → Type 0
  Ended j s e pr code = Knowing (behind_if p k returning s e pr) × InBody s → Single q body j code

  ends : (j : Targets) (s : Scope) (pr : Progress) (word : Span) (e : MaybeExpression) → IsWrittenIf e → Gives (Ended j s e pr) (return_judged p k returning s word e)
  ends j s pr word tree.no_expression lengths = weaker (Single q body j) (Ended j s tree.no_expression pr) (returned returning word) (returned-fits q body p.heads represents.heads j returning word result) (λ c f h. f)
  ends j s pr word (tree.an_expression e) lengths = behind (Valued s e pr) (Ended j s (tree.an_expression e) pr) (valued p k returning s e) _ (value-of s e pr lengths)
      (λ t v. under (Knowing (bodies.behind p s e pr) × InBody s) (Single q body j) (returned_value p.heads returning word (written.span_of e) t) (λ h. value-returned q body p.heads represents.heads j returning word (written.span_of e) t result (v h).0))

  returns : (j : Targets) (s : Scope) (pr : Progress) (word : Span) (e : MaybeExpression) → IsWrittenIf e → Gives (Single-done j s pr false) (bind (return_judged p k returning s word e) (λ code. gives (one code s (behind_if p k returning s e pr))))
  returns j s pr word e lengths = behind (Ended j s e pr) (Single-done j s pr false) (return_judged p k returning s word e) (λ code. gives (one code s (behind_if p k returning s e pr))) (ends j s pr word e lengths)
      (λ code f. (after-if s e pr, λ knows h. single j code s (behind_if p k returning s e pr) (f (knows, h)) h))

  throws : (j : Targets) (s : Scope) (pr : Progress) (word : Span) (e : Expression) → IsWritten e → Gives (Single-done j s pr false) (bind (valued p k returning s e) (λ t. bind (thrown p.heads word (written.span_of e) t) (λ code. gives (one code s (bodies.behind p s e pr)))))
  throws j s pr word e lengths = behind (Valued s e pr) (Single-done j s pr false) (valued p k returning s e) _ (value-of s e pr lengths) (λ t v.
      behind (λ code. Used p k q body first met represents has known t → Single q body j code) (Single-done j s pr false) (thrown p.heads word (written.span_of e) t) (λ code. gives (one code s (bodies.behind p s e pr)))
      (under (Used p k q body first met represents has known t) (Single q body j) (thrown p.heads word (written.span_of e) t) (λ u. thrown-fits q body p.heads represents.heads j word (written.span_of e) t u.0))
      (λ code f. (after s e pr, λ knows h. single j code s (bodies.behind p s e pr) (f (v (knows, h))) h)))

  -- ---- JLS 14.20

  abbrev Caught : Targets → Scope → Progress → ListDone Clause → Type 0
  Caught j s pr l = Grew s pr l.progress × (Knowing l.progress → InBody s → ClausesFit q body p.heads represents.heads j l.items)

  try-fits : (j : Targets) (word at : Span) (inner : CoreStmt) (cs : CoreCatches) (last : MaybeStmt) → Fit j inner → CatchesFitAs q body p.heads represents.heads j cs → MaybeFitsAs q body p.heads represents.heads j last
      → Single q body j (try_code p k returning word at inner cs last)
  try-fits j word at inner cs last f g h = ((λ texts x. let s = three {a = every_expression (stands_once texts) inner} {b = throughout_catches (stands_once texts) (λ f. true) cs} x in fits.try (f texts s.0) (g texts s.1) (h texts s.2)), refl)

  clauses-there : (j : Targets) (s : Scope) (cs : List Clause) → Gives (λ c. ClausesFit q body p.heads represents.heads j cs → CatchesFitAs q body p.heads represents.heads j c) (clauses p.heads s cs)
  clauses-there j s cs = under (ClausesFit q body p.heads represents.heads j cs) (CatchesFitAs q body p.heads represents.heads j) (clauses p.heads s cs) (clauses-fit q body p.heads represents.heads j s cs)

  tries : (j : Targets) (s : Scope) (pr : Progress) (word opening closing : Span) (sub : Judged Done) (further : Progress → Judged (ListDone Clause)) → Gives (Block j s pr) sub → ((at : Progress) → Gives (Caught j s at) (further at))
      → Gives (Single-done j s pr false) (bind sub (λ d. bind (further d.progress) (λ ds. bind (clauses p.heads s ds.items) (λ caught. gives (one (try_code p k returning word word (block_of opening closing d) caught no_stmt) s ds.progress)))))
  tries j s pr word opening closing sub further x u = behind (Block j s pr) (Single-done j s pr false) sub _ x (λ d y.
      behind (Caught j s d.progress) (Single-done j s pr false) (further d.progress) _ (u d.progress) (λ ds w.
      behind (λ c. ClausesFit q body p.heads represents.heads j ds.items → CatchesFitAs q body p.heads represents.heads j c) (Single-done j s pr false) (clauses p.heads s ds.items) _ (clauses-there j s ds.items)
      (λ caught z. (on y.0 w.0, λ knows h. single j _ s ds.progress (try-fits j word word (block_of opening closing d) caught no_stmt (block-fits j opening closing d (y.1 (before w.0 knows) h)) (z (w.1 knows h)) (no-statement q body p.heads represents.heads j)) h))))

  finishes : (j : Targets) (s : Scope) (pr : Progress) (word opening closing at opening' closing' : Span) (sub : Judged Done) (further : Progress → Judged (ListDone Clause)) (last : Progress → Judged Done) → Gives (Block j s pr) sub
      → ((at : Progress) → Gives (Caught j s at) (further at)) → ((at : Progress) → Gives (Block j s at) (last at))
      → Gives (Single-done j s pr false) (bind sub (λ d. bind (further d.progress) (λ ds. bind (last ds.progress) (λ end. bind (clauses p.heads s ds.items) (λ caught.
      gives (one (try_code p k returning word at (block_of opening closing d) caught (a_stmt (block_of opening' closing' end))) s end.progress))))))
  finishes j s pr word opening closing at opening' closing' sub further last x u v = behind (Block j s pr) (Single-done j s pr false) sub _ x (λ d y.
      behind (Caught j s d.progress) (Single-done j s pr false) (further d.progress) _ (u d.progress) (λ ds w.
      behind (Block j s ds.progress) (Single-done j s pr false) (last ds.progress) _ (v ds.progress) (λ end l.
      behind (λ c. ClausesFit q body p.heads represents.heads j ds.items → CatchesFitAs q body p.heads represents.heads j c) (Single-done j s pr false) (clauses p.heads s ds.items) _ (clauses-there j s ds.items)
      (λ caught z. (
        on y.0 (on w.0 l.0),
        λ knows h. let early = before l.0 knows in single j _ s end.progress (try-fits j word at (block_of opening closing d) caught (a_stmt (block_of opening' closing' end)) (block-fits j opening closing d (y.1 (before w.0 early) h)) (z (w.1 early h))
            (a-statement q body p.heads represents.heads j (block_of opening' closing' end) (block-fits j opening' closing' end (l.1 knows h)))) h,
      )))))

  -- ---- JLS 14.14.2

  module _ (s : Scope) (pr : Progress) (is_final : Bool) (t : SourceType) (id : Identifier) (e : Expression) (array : TypedNode) where
    abbrev at-array : Progress
    at-array = with_number p.heads (no_name p) array.type false (written.span_of e) (bodies.behind p s e pr)

    abbrev at-index : Progress
    at-index = with_number p.heads (no_name p) (primitive_type base.Int) false (written.span_of e) at-array

    abbrev at-variable : Progress
    at-variable = with_number p.heads id.name t is_final id.span at-index

    one-more : (x : Progress) (name : NameId) (u : SourceType) (f : Bool) (span : Span) → next_number (with_number p.heads name u f span x) ≡ next_number x + 1
    one-more x name u f span = length-append x.locals _

    index-number : next_number at-array ≡ next_number pr + 1
    index-number = one-more (bodies.behind p s e pr) (no_name p) array.type false (written.span_of e)

    variable-number : next_number at-index ≡ next_number pr + 2
    variable-number = let more = one-more at-array (no_name p) (primitive_type base.Int) false (written.span_of e) in let index = index-number in omega (arith, more, index)

    -- the locals of the array, the index and the variable have types of variables
    record AreVariables : Type 0 where
      of_array : is_variable_type q (erased p.heads array.type) ≡ true
      of_variable : is_variable_type q (erased p.heads t) ≡ true

    abbrev GrewEach : Progress → Progress → Type 0
    GrewEach = Grown q body met AreVariables

    with-variable : GrewEach at-index at-variable
    with-variable = grows-number p.heads id.name t is_final id.span at-index (λ v. v.of_variable)

    with-index : GrewEach at-array at-variable
    with-index = on (grows-number p.heads (no_name p) (primitive_type base.Int) false (written.span_of e) at-array
        (λ v. ap (is_variable_type q) (erased-plain p.heads base.Int))) with-variable

    with-array : GrewEach (bodies.behind p s e pr) at-variable
    with-array = on (grows-number p.heads (no_name p) array.type false (written.span_of e) (bodies.behind p s e pr) (λ v. v.of_array)) with-index

    grown : (Knowing at-variable → InBody s → AreVariables) → Grew s pr at-variable
    grown are = on (after s e pr) (under-claim are with-array)

    behind-array : Knowing at-variable → Knowing (bodies.behind p s e pr)
    behind-array knows = before with-array knows

    variable-there : Knowing at-variable → slice_get body.locals (next_number pr + 2) ≡ Some (erased p.heads t)
    variable-there knows = subst (λ (n : ℕ). slice_get body.locals n ≡ Some (erased p.heads t)) variable-number (number-there p.heads id.name t is_final id.span at-index knows)

    index-there : Knowing at-variable → slice_get body.locals (next_number pr + 1) ≡ Some (of base.Int)
    index-there knows = subst (λ (n : ℕ). slice_get body.locals n ≡ Some (of base.Int)) index-number
        (number-there p.heads (no_name p) (primitive_type base.Int) false (written.span_of e) at-array (before with-variable knows) ∙ ap Some (erased-plain p.heads base.Int))

    array-there : Knowing at-variable → slice_get body.locals (next_number pr) ≡ Some (erased p.heads array.type)
    array-there knows = number-there p.heads (no_name p) array.type false (written.span_of e) (bodies.behind p s e pr)
        (before with-index knows)

    each-stands : Knowing at-variable → InBody s → IsSound q p.heads 255 t → Used p k q body first met represents has known array → EachStands q body p.heads represents.heads array (next_number pr) t
    each-stands knows h sound u = record {
      value = u.0;
      is_value = u.1;
      array_there = array-there knows;
      index_there = index-there knows;
      there = variable-there knows;
      few = sound-dims q p.heads (omega arith) sound;
      variable = sound-value q p sound;
    }

    element-scope : Knowing at-variable → InBody s → IsSound q p.heads 255 t → InBody (with_element p k returning s pr is_final t id)
    element-scope knows h sound = with-local p k q body first is_final (local_of id.name t is_final (next_number pr + 2) None) s h (record { type = sound; constant = λ c f. absurd (none-some c f) }) (variable-there knows)

  each-variables : {s : Scope} {pr : Progress} {is_final : Bool} (t : SourceType) (w : TypeName) {id : Identifier} {e : Expression} → body_type p s.place.here w ≡ gives t → (array : TypedNode) → is_some (element_type array.type) ≡ true
      → Knowing (at-variable s pr is_final t id e array) → InBody s → Valued s e pr array → AreVariables s pr is_final t id e array
  each-variables {s = s} {pr = pr} {is_final = is_final} t w {id = id} {e = e} i array elements knows h v = record {
    of_array = array-variable q p.heads represents.heads array.type (v (behind-array s pr is_final t id e array knows, h)).0.type elements;
    of_variable = sound-variable q p.heads represents.heads (omega arith) (known.types s w t h i);
  }

  for-each-loop : (j : Targets) (label : Option Identifier) (s : Scope) (pr : Progress) (word : Span) (is_final : Bool) (t : TypeName) (id : Identifier) (e : Expression) (l : Bool) (sub : Scope → Progress → Judged Done)
      → IsWritten e → ((at : Scope) (from : Progress) → Gives (Single-done (in_loop (loop-targets label j)) at from l) (sub at from))
      → Gives (Single-done j s pr false) (bind (body_type p s.place.here t) (λ of. bind (valued p k returning s e) (λ array. bind (sub (with_element p k returning s pr is_final of id) (with_number p.heads id.name of is_final id.span (with_hidden p k returning (written.span_of e) array (bodies.behind p s e pr)))) (λ d.
      bind (for_each_judged p k returning s label word e array (next_number pr) of id (alone d)) (λ code. gives (one code s d.progress))))))
  for-each-loop j label s pr word is_final t id e l sub lengths x = behind-given (λ u. Unit {0}) (Single-done j s pr false) (body_type p s.place.here t) _ (any (body_type p s.place.here t)) (λ of i _.
      behind (Valued s e pr) (Single-done j s pr false) (valued p k returning s e) _ (value-of s e pr lengths) (λ array v.
      behind (Single-done (in_loop (loop-targets label j)) (with_element p k returning s pr is_final of id) (at-variable s pr is_final of id e array) l) (Single-done j s pr false)
      (sub (with_element p k returning s pr is_final of id) (at-variable s pr is_final of id e array)) _ (x (with_element p k returning s pr is_final of id) (at-variable s pr is_final of id e array)) (λ d y.
      behind (EachAssigned p k returning q body represents.heads j label array (next_number pr) of (alone d)) (Single-done j s pr false) (for_each_judged p k returning s label word e array (next_number pr) of id (alone d)) (λ code. gives (one code s d.progress))
      (for-each-fits p k returning q body represents.heads j s label word e array (next_number pr) of id (alone d))
      (λ code z. (
        on (grown s pr is_final of id e array (λ knows h. each-variables of t i array z.0 knows h v))
            (under-claim (λ knows h. element-scope s pr is_final of id e array (before y.0 knows) h (known.types s t of h i)) y.0),
        λ knows h.
            let early = before y.0 knows in
            let sound = known.types s t of h i in
            single j code s d.progress (z.1 (each-stands s pr is_final of id e array early h sound (v (behind-array s pr is_final of id e array early, h)))
            (alone-fits (in_loop (loop-targets label j)) d.code (y.1 knows (element-scope s pr is_final of id e array early h sound)).0.code)) h,
      )))))

  -- ---- groups and catches

  grouped : (j : Targets) (o : Option ℕ) (s : Scope) (pr : Progress) (ls : Labels) (sub : Progress → Judged Done) (further : Scope → Progress → Judged GroupsDone) → LabelsAreWritten ls
      → ((at : Progress) → Gives (Block j s at) (sub at)) → ((at : Scope) (from : Progress) → Gives (Grouped j at from) (further at from))
      → Gives (Grouped j s pr) (bind (labels p k o s pr ls) (λ l. bind (sub l.progress) (λ d. bind (further (with_classes_of s d.scope) d.progress) (λ rest. gives (one_more_group l d rest)))))
  grouped j o s pr ls sub further lengths x u = behind (LabelsClaim p k q body first met represents has known s pr) (Grouped j s pr) (labels p k o s pr ls) _ (labels-fit p k q body first met represents has known o s pr ls lengths) (λ l a.
      behind (Block j s l.progress) (Grouped j s pr) (sub l.progress) _ (x l.progress) (λ d y.
      behind (Grouped j (with_classes_of s d.scope) d.progress) (Grouped j s pr) (further (with_classes_of s d.scope) d.progress) _ (u (with_classes_of s d.scope) d.progress)
      (λ rest w. (
        on a.0 (on y.0 (under-claim (λ knows h. with-classes-of p k q body first s d.scope h (y.1 (before w.0 knows) h).scope) w.0)),
        λ knows h.
            let early = before w.0 knows in
            let one-done = y.1 early h in
            let more = w.1 knows (with-classes-of p k q body first s d.scope h one-done.scope) in
            (one_group (record { labels = a.1 (before y.0 early) h; parts = one-done.code }) more.0, All-append (λ n. n < length body.locals) d.numbers rest.numbers one-done.numbers more.1),
      ))))

  -- the scope of a clause, with its local
  caught-scope : (s : Scope) (pr : Progress) (is_final : Bool) (id : Identifier) (t : SourceType) {at : Progress} {C : Type 0} → Knowing at → InBody s → IsSound q p.heads 255 t
      → Grown q body met C (with_number p.heads id.name t is_final id.span pr) at → InBody (with_local is_final (local_of id.name t is_final (next_number pr) None) s)
  caught-scope s pr is_final id t knows h sound g = with-local p k q body first is_final (local_of id.name t is_final (next_number pr) None) s h (record { type = sound; constant = λ c f. absurd (none-some c f) })
      (number-there p.heads id.name t is_final id.span pr (before g knows))

  catched : (j : Targets) (s : Scope) (pr : Progress) (is_final : Bool) (n : QualifiedName) (id : Identifier) (opening closing : Span) (sub : Scope → Progress → Judged Done) (further : Progress → Judged (ListDone Clause))
      → ((at : Scope) (from : Progress) → Gives (Block j at from) (sub at from)) → ((at : Progress) → Gives (Caught j s at) (further at))
      → Gives (Caught j s pr) (bind (bare_type p s.place.here (caught_name n)) (λ t. bind (sub (with_local is_final (local_of id.name t is_final (next_number pr) None) s) (with_number p.heads id.name t is_final id.span pr)) (λ d.
      bind (further d.progress) (λ rest. gives (one_more_item (clause p k returning id opening closing pr t n.span d) rest)))))
  catched j s pr is_final n id opening closing sub further x u = behind (λ t. InBody s → IsSound q p.heads 255 t) (Caught j s pr) (bare_type p s.place.here (caught_name n)) _
      (under (InBody s) (IsSound q p.heads 255) (bare_type p s.place.here (caught_name n)) (λ h. bare-sound p k q body s represents has h.stands (caught_name n))) (λ t sound.
      behind (Block j (with_local is_final (local_of id.name t is_final (next_number pr) None) s) (with_number p.heads id.name t is_final id.span pr)) (Caught j s pr)
      (sub (with_local is_final (local_of id.name t is_final (next_number pr) None) s) (with_number p.heads id.name t is_final id.span pr)) _
      (x (with_local is_final (local_of id.name t is_final (next_number pr) None) s) (with_number p.heads id.name t is_final id.span pr)) (λ d y.
      behind (Caught j s d.progress) (Caught j s pr) (further d.progress) _ (u d.progress)
      (λ rest w. (
        on (grows-number p.heads id.name t is_final id.span pr (λ h. sound-variable q p.heads represents.heads (omega arith) (sound h)))
            (on (under-claim (λ knows h. caught-scope s pr is_final id t knows h (sound h) y.0) y.0) w.0),
        λ knows h.
            let early = before w.0 knows in
            let there = number-there p.heads id.name t is_final id.span pr (before y.0 early) in
            let scope = caught-scope s pr is_final id t early h (sound h) y.0 in
            more_clauses (record { there = there; block = block-fits j opening closing d (y.1 early scope) }) (w.1 knows h),
      ))))

  -- ---- the walk

  settled-at : (label : Option Identifier) (b : Statement) (j : Targets) (s : Scope) (pr : Progress) (l : Bool) (x : Judged Done) → is_for b ≡ false → Gives (Single-done (inside label b j) s pr l) x → Gives (Single-done (around label b j) s pr l) x
  settled-at label b j s pr l x e h = subst (λ (i : Targets). Gives (Single-done i s pr l) x) (plainly label b j e) h

  abbrev to : Option Identifier → Statement → Targets → Targets
  to label b j = inside label b j

  mutual
    walk : (j : Targets) (label : Option Identifier) (s : Scope) (pr : Progress) (b : Statement) → StatementIsWritten b → Gives (Single-done (around label b j) s pr (is_direct b)) (statement p k returning (inside label b j) label s pr b)
    walk j label s pr (tree.block opening b closing) h = let b' = tree.block opening b closing in settled-at label b' j s pr false (statement p k returning (to label b' j) label s pr b') refl
        (blocked (to label b' j) s pr opening closing (statements p k returning (to label b' j) s pr b) (walk-block (to label b' j) s pr b h))
    walk j label s pr (tree.local start is_final t vs span) h = let b' = tree.local start is_final t vs span in settled-at label b' j s pr false (statement p k returning (to label b' j) label s pr b') refl
        (declares (to label b' j) s pr is_final start t vs h)
    walk j label s pr (tree.local_class d) h = settled-at label (tree.local_class d) j s pr false (statement p k returning (to label (tree.local_class d) j) label s pr (tree.local_class d)) refl
        (classed (to label (tree.local_class d) j) s pr (declared_name d))
    walk j label s pr (tree.empty span) h = settled-at label (tree.empty span) j s pr false (statement p k returning (to label (tree.empty span) j) label s pr (tree.empty span)) refl
        (grows-not pr, λ knows i. (one-done (to label (tree.empty span) j) (stmt core.Empty span span) s pr (λ texts g. fits.empty) i, refl))
    walk j label s pr (tree.expression_statement start e span) h = let b' = tree.expression_statement start e span in settled-at label b' j s pr false (statement p k returning (to label b' j) label s pr b') refl
        (expressed (to label b' j) s pr start e h)
    walk j label s pr (tree.labelled id b span) h = let b' = tree.labelled id b span in settled-at label b' j s pr false (statement p k returning (to label b' j) label s pr b') refl
        (labels-it (to label b' j) s pr id b (statement p k returning (in_label id b (to label b' j)) (Some id) s pr b) (walk (to label b' j) (Some id) s pr b h))
    walk j label s pr (tree.if_only word c b span) h = let b' = tree.if_only word c b span in settled-at label b' j s pr false (statement p k returning (to label b' j) label s pr b') refl
        (if-only (to label b' j) s pr word c (is_direct b) (statement p k returning (to label b' j) None s (bodies.behind p s c pr) b) h.0 (walk (to label b' j) None s (bodies.behind p s c pr) b h.1))
    walk j label s pr (tree.if_else word c b d span) h = let b' = tree.if_else word c b d span in settled-at label b' j s pr false (statement p k returning (to label b' j) label s pr b') refl
        (if-else (to label b' j) s pr word c (is_direct b) (is_direct d) (statement p k returning (to label b' j) None s (bodies.behind p s c pr) b) (λ at. statement p k returning (to label b' j) None s at d) h.0
        (walk (to label b' j) None s (bodies.behind p s c pr) b h.1) (λ at. walk (to label b' j) None s at d h.2))
    walk j label s pr (tree.while word c b span) h = let b' = tree.while word c b span in settled-at label b' j s pr true (statement p k returning (to label b' j) label s pr b') refl
        (while-loop (to label b' j) s pr word c (is_direct b) (statement p k returning (in_loop (to label b' j)) None s (bodies.behind p s c pr) b) h.0 (walk (in_loop (to label b' j)) None s (bodies.behind p s c pr) b h.1))
    walk j label s pr (tree.do_while word b c span) h = let b' = tree.do_while word b c span in settled-at label b' j s pr true (statement p k returning (to label b' j) label s pr b') refl
        (do-while (to label b' j) s pr word c (is_direct b) (statement p k returning (in_loop (to label b' j)) None s pr b) h.1 (walk (in_loop (to label b' j)) None s pr b h.0))
    walk j None s pr (tree.for word start c es b span) h = for-loop j None s pr word start c es (is_direct b) (λ at from. statement p k returning (in_loop j) None at from b) h.0 h.1 h.2 (λ at from. walk (in_loop j) None at from b h.3)
    walk j (Some id) s pr (tree.for word start c es b span) h = for-loop j (Some id) s pr word start c es (is_direct b) (λ at from. statement p k returning (in_loop (loop-targets (Some id) j)) None at from b) h.0 h.1 h.2
        (λ at from. walk (in_loop (loop-targets (Some id) j)) None at from b h.3)
    walk j None s pr (tree.for_each word is_final t id e b span) h = for-each-loop j None s pr word is_final t id e (is_direct b) (λ at from. statement p k returning (in_loop j) None at from b) h.0 (λ at from. walk (in_loop j) None at from b h.1)
    walk j (Some label) s pr (tree.for_each word is_final t id e b span) h = for-each-loop j (Some label) s pr word is_final t id e (is_direct b) (λ at from. statement p k returning (in_loop (loop-targets (Some label) j)) None at from b) h.0
        (λ at from. walk (in_loop (loop-targets (Some label) j)) None at from b h.1)
    walk j label s pr (tree.switch word e gs span) h = let b' = tree.switch word e gs span in settled-at label b' j s pr false (statement p k returning (to label b' j) label s pr b') refl
        (switches (to label b' j) s pr word span e (λ o. groups p k returning (in_switch (to label b' j)) o s (bodies.behind p s e pr) gs) h.0 (λ o. walk-groups (in_switch (to label b' j)) o s (bodies.behind p s e pr) gs h.1))
    walk j label s pr (tree.break word target span) h = let b' = tree.break word target span in settled-at label b' j s pr false (statement p k returning (to label b' j) label s pr b') refl
        (jumps (to label b' j) s pr false word target)
    walk j label s pr (tree.continue word target span) h = let b' = tree.continue word target span in settled-at label b' j s pr false (statement p k returning (to label b' j) label s pr b') refl
        (jumps (to label b' j) s pr true word target)
    walk j label s pr (tree.return word e span) h = let b' = tree.return word e span in settled-at label b' j s pr false (statement p k returning (to label b' j) label s pr b') refl
        (returns (to label b' j) s pr word e h)
    walk j label s pr (tree.throw word e span) h = let b' = tree.throw word e span in settled-at label b' j s pr false (statement p k returning (to label b' j) label s pr b') refl
        (throws (to label b' j) s pr word e h)
    walk j label s pr (tree.try word opening b closing cs span) h = let b' = tree.try word opening b closing cs span in settled-at label b' j s pr false (statement p k returning (to label b' j) label s pr b') refl
        (tries (to label b' j) s pr word opening closing (statements p k returning (to label b' j) s pr b) (λ at. catches p k returning (to label b' j) s at cs) (walk-block (to label b' j) s pr b h.0) (λ at. walk-catches (to label b' j) s at cs h.1))
    walk j label s pr (tree.try_finally word opening b closing cs at opening' c closing' span) h = let b' = tree.try_finally word opening b closing cs at opening' c closing' span in
        settled-at label b' j s pr false (statement p k returning (to label b' j) label s pr b') refl
        (finishes (to label b' j) s pr word opening closing at opening' closing' (statements p k returning (to label b' j) s pr b) (λ from. catches p k returning (to label b' j) s from cs) (λ from. statements p k returning (to label b' j) s from c)
        (walk-block (to label b' j) s pr b h.0) (λ from. walk-catches (to label b' j) s from cs h.1) (λ from. walk-block (to label b' j) s from c h.2))

    pub walk-block : (j : Targets) (s : Scope) (pr : Progress) (bs : Statements) → BodyIsWritten bs → Gives (Block j s pr) (statements p k returning j s pr bs)
    walk-block j s pr tree.no_statements h = (grows-not pr, λ knows i. record { code = none_fits; numbers = All-nil _; scope = i })
    walk-block j s pr (tree.more_statements b bs) h = behind (Single-done j s pr (is_direct b)) (Block j s pr) (statement p k returning j None s pr b) (λ d. bind (statements p k returning j d.scope d.progress bs) (λ rest. gives (followed d rest))) (walk j None s pr b h.0)
        (λ d y. behind (Block j d.scope d.progress) (Block j s pr) (statements p k returning j d.scope d.progress bs) (λ rest. gives (followed d rest)) (walk-block j d.scope d.progress bs h.1)
        (λ rest w. (
          on y.0 (under-claim (λ knows i. (y.1 (before w.0 knows) i).0.scope) w.0),
          λ knows i. let one-done = (y.1 (before w.0 knows) i).0 in let more = w.1 knows one-done.scope in record {
            code = all-fit one-done.code more.code;
            numbers = All-append (λ n. n < length body.locals) d.numbers rest.numbers one-done.numbers more.numbers;
            scope = more.scope;
          },
        )))

    walk-groups : (j : Targets) (o : Option ℕ) (s : Scope) (pr : Progress) (gs : Groups) → GroupsAreWritten gs → Gives (Grouped j s pr) (groups p k returning j o s pr gs)
    walk-groups j o s pr tree.no_groups h = (grows-not pr, λ knows i. (no_group, All-nil _))
    walk-groups j o s pr (tree.more_groups ls b gs) h = grouped j o s pr ls (λ at. statements p k returning j s at b) (λ at from. groups p k returning j o at from gs) h.0 (λ at. walk-block j s at b h.1) (λ at from. walk-groups j o at from gs h.2)

    walk-catches : (j : Targets) (s : Scope) (pr : Progress) (cs : Catches) → CatchesAreWritten cs → Gives (Caught j s pr) (catches p k returning j s pr cs)
    walk-catches j s pr tree.no_catches h = (grows-not pr, λ knows i. no_clauses)
    walk-catches j s pr (tree.more_catches is_final n id opening b closing cs) h = catched j s pr is_final n id opening closing (λ at from. statements p k returning j at from b) (λ at. catches p k returning j s at cs)
        (λ at from. walk-block j at from b h.0) (λ at. walk-catches j s at cs h.1)

pub bodies_fit : BodiesFit
bodies_fit p k q body first met returning represents has known result j s pr b h lengths = weaker _ _ (statements p k returning j s pr b) (walk-block p k q body first met returning represents has known result j s pr b lengths)
    (λ d y locals among. y.1 (record { locals = locals; met = among }) h)

pub locals_are_typed : LocalsAreTyped
locals_are_typed p k q body first met returning represents has known result j s pr b h lengths = weaker _ _ (statements p k returning j s pr b) (walk-block p k q body first met returning represents has known result j s pr b lengths)
    (λ d y locals among. y.0.typed (record { locals = locals; met = among }) h)
