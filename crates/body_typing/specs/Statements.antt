-- Statements (JLS 14): what each comes to, core statements, or the first fault. Parts come in the order in which they
-- are written, before the whole: what is asked of a condition, a selector, a label or a catch comes behind all parts
-- of its statement.
use Rattle.std.specs.Prelude.{ℕ, ◌+◌, ◌-◌, Bool, true, false, List, [], ◌∷◌, ◌++◌, Option, Some, None, if◌then◌else◌}
use Rattle.je_base.specs.declared.span.Span.{Span}
use Rattle.je_core.specs.declared.types.Base.TheVariants as base
use Rattle.je_core.specs.Core.{Core, CoreCatches, CoreStmt, MaybeStmt, Block, Empty, Labelled, Switch, Try, a_stmt, core_stmts, no_stmt, stmt}
use Rattle.je_ast.specs.declared.name.Identifier.{Identifier}
use Rattle.je_ast.specs.Spans as written
use Rattle.je_ast.specs.Trees.{Catches, Expression, Expressions, ForInitializer, Groups, MaybeExpression, Statement, Statements}
use Rattle.je_ast.specs.Trees as tree
use Rattle.je_ast.specs.Types.{TypeName}
use Rattle.je_fitting.specs.Statements.{Targets, in_loop, in_switch}
use Rattle.je_scopes.specs.Headers.{declared_name}
use Rattle.je_scopes.specs.SourceTypes.{SourceType}
use Rattle.header_typing.specs.WrittenTypes.{span_of}
use Rattle.je_typing.specs.declared.fault.TypeRule.TheVariants.{BadForEach}
use Rattle.je_typing.specs.Conversions.{assigned}
use Rattle.je_typing.specs.Judged.{Judged, gives, ◌>>=◌, ◌>>◌, need}
use Rattle.je_typing.specs.Typed.{TypedNode, element_type, primitive_type}
use Rattle.name_typing.specs.Program.{Program}
use Rattle.body_types.specs.BodyTypes.{bare_type, body_type}
use Rattle.statement_steps.specs.Conditions.{do_loop, if_statement, loop_statement, no_condition}
use Rattle.statement_steps.specs.Jumps.{jump, labelled}
use Rattle.statement_steps.specs.Returns.{Returning, returned, returned_value}
use Rattle.statement_steps.specs.Switches.{none_met, selector}
use Rattle.statement_steps.specs.Thrown.{thrown}
use Rattle.body_typing.specs.Expressions.{Known, expression, read, value}
use Rattle.body_typing.specs.FinalVariables.{Scope}
use Rattle.body_typing.specs.Bodies.{Done, Progress, alone, behind, block_of, followed, local_of, next_number, no_name, nothing_done, one, performed, with_classes_of, with_local, with_number}
use Rattle.body_typing.specs.Catches.{Clause, caught_name, clauses}
use Rattle.body_typing.specs.ForEach as each
use Rattle.body_typing.specs.LocalClasses.{local_class}
use Rattle.body_typing.specs.LocalVariables.{new_name, variables}
use Rattle.body_typing.specs.Switches.{LabelsMet, WrittenGroup, enum_of, groups_from, labels, selected_by}

-- ---- labels (JLS 14.7): a `for` is a block with a loop in it, and its label stands at the loop

abbrev pub is_for : Statement → Bool
is_for (tree.for word start c es b span) = true
is_for (tree.for_each word is_final t id e b span) = true
is_for b = false

abbrev pub is_loop : Statement → Bool
is_loop (tree.while word c b span) = true
is_loop (tree.do_while word b c span) = true
is_loop b = is_for b

abbrev pub in_label : Identifier → Statement → Targets → Targets
in_label id b j = record j { labels = record { name = id.name; is_loop = is_loop b } ∷ j.labels }

abbrev pub with_label : Option Identifier → CoreStmt → CoreStmt
with_label None loop = loop
with_label (Some id) loop = stmt (Labelled id.name loop) id.span id.span

-- where a statement with that label begins
abbrev pub start_of : Option Identifier → Span → Span
start_of None word = word
start_of (Some id) word = id.span

abbrev pub label_or_inside : Statement → CoreStmt → CoreStmt → CoreStmt
label_or_inside b outside inside = if is_for b then inside else outside

-- the closing bracket of a statement that ends with one
abbrev pub last_byte : Span → Span
last_byte span = record span { start = span.end - 1 }

-- ---- parts of statements: their code, and what was met

pub record ListDone (A : Type 0) : Type 0 where
  pub items : List A
  pub progress : Progress

abbrev pub none_done : {A : Type 0} → Progress → ListDone A
none_done pr = record { items = []; progress = pr }

abbrev pub one_more : {A : Type 0} → A → ListDone A → ListDone A
one_more a rest = record { items = a ∷ rest.items; progress = rest.progress }

pub record GroupsDone : Type 0 where
  pub groups : List WrittenGroup
  pub numbers : List ℕ
  pub progress : Progress

abbrev pub one_more_group : LabelsMet → Done → GroupsDone → GroupsDone
one_more_group l d rest = record {
  groups = record { labels = l.labels; parts = d.code } ∷ rest.groups;
  numbers = d.numbers ++ rest.numbers;
  progress = rest.progress;
}

-- `returning` is what the body gives
module _ (p : Program) (k : Known) (returning : Returning) where
  -- ---- expressions in statements

  abbrev pub valued : Scope → Expression → Judged TypedNode
  valued s e = value (expression p k s read e)

  -- JLS 14.14.1.2: one that isn't there holds
  abbrev pub condition_or : Scope → Span → MaybeExpression → Judged TypedNode
  condition_or s word tree.no_expression = gives (record { node = no_condition word; type = primitive_type base.Bool })
  condition_or s word (tree.an_expression e) = valued s e

  abbrev pub condition_span : Span → MaybeExpression → Span
  condition_span word tree.no_expression = word
  condition_span word (tree.an_expression e) = written.span_of e

  abbrev pub behind_if : Scope → MaybeExpression → Progress → Progress
  behind_if s tree.no_expression pr = pr
  behind_if s (tree.an_expression e) pr = behind p s e pr

  -- the steps of a `for`, whose values are dropped
  abbrev pub steps : Scope → Progress → Expressions → Judged (ListDone Core)
  steps s pr tree.no_expressions = gives (none_done pr)
  steps s pr (tree.more_expressions e es) = do
    t ← expression p k s read e
    rest ← steps s (behind p s e pr) es
    gives (one_more t.node rest)

  abbrev pub performed_steps : Scope → Progress → Expressions → Judged Done
  performed_steps s pr tree.no_expressions = gives (nothing_done s pr)
  performed_steps s pr (tree.more_expressions e es) = do
    t ← expression p k s read e
    rest ← performed_steps s (behind p s e pr) es
    gives (followed (one (performed (written.span_of e) t.node) s (behind p s e pr)) rest)

  -- ---- declarations of locals (JLS 14.4, 14.14.1.1)

  abbrev pub locals : Scope → Progress → Bool → Span → TypeName → tree.Variables → Judged Done
  locals s pr is_final start t vs = do
    of ← body_type p s.place.here t
    variables p k is_final start t of s pr vs

  abbrev pub for_start : Scope → Progress → ForInitializer → Judged Done
  for_start s pr (tree.locals is_final t vs) = locals s pr is_final (span_of t) t vs
  for_start s pr (tree.steps es) = performed_steps s pr es

  -- ---- steps on what parts came to

  -- JLS 14.14.1
  abbrev pub for_code : Option Identifier → Span → Done → CoreStmt → CoreStmt
  for_code label word start loop =
      stmt (Block start.numbers (core_stmts (start.code ++ with_label label loop ∷ []))) (start_of label word) word

  -- JLS 14.14.2: the locals of the array, the index and the variable
  abbrev pub with_element : Scope → Progress → Bool → SourceType → Identifier → Scope
  with_element s pr is_final t id = with_local is_final (local_of id.name t is_final (next_number pr + 2) None) s

  abbrev pub with_hidden : Span → TypedNode → Progress → Progress
  with_hidden span array pr =
      with_number p.heads (no_name p) (primitive_type base.Int) false span
      (with_number p.heads (no_name p) array.type false span pr)

  abbrev pub for_each_code : Option Identifier → Span → Expression → TypedNode → ℕ → SourceType → Identifier → Core →
      CoreStmt → CoreStmt
  for_each_code label word e array n t id from body =
      stmt (Block (n ∷ (n + 1) ∷ [])
      (core_stmts (each.begins p.heads (written.span_of e) array n word ++ with_label label
      (each.turns p.heads (written.span_of e) array n word t id.span from body) ∷ [])))
      (start_of label word) word

  abbrev pub for_each_judged : Scope → Option Identifier → Span → Expression → TypedNode → ℕ → SourceType →
      Identifier → CoreStmt → Judged CoreStmt
  for_each_judged s label word e array n t id body = do
    new_name s id
    of ← need BadForEach (written.span_of e) (element_type array.type)
    from ← assigned p.heads t (written.span_of e) (each.element p.heads (written.span_of e) array n of)
    gives (for_each_code label word e array n t id from body)

  -- JLS 14.11
  abbrev pub switch_judged : Span → Span → Expression → TypedNode → GroupsDone → Judged CoreStmt
  switch_judged word span e by gs = do
    selector (written.span_of e) by.type
    groups ← groups_from p.heads by.type none_met gs.groups
    gives (stmt (Switch gs.numbers by.node groups) word (last_byte span))

  abbrev pub return_judged : Scope → Span → MaybeExpression → Judged CoreStmt
  return_judged s word tree.no_expression = returned returning word
  return_judged s word (tree.an_expression e) = do
    t ← valued s e
    returned_value p.heads returning word (written.span_of e) t

  abbrev pub labelled_code : Targets → Identifier → Statement → CoreStmt → Judged CoreStmt
  labelled_code j id b body = do
    whole ← labelled j id body
    gives (label_or_inside b whole body)

  abbrev pub clause : Identifier → Span → Span → Progress → SourceType → Span → Done → Clause
  clause id opening closing pr t name_span d =
      record { name = id; number = next_number pr; type = t; name_span = name_span; body = block_of opening closing d }

  abbrev pub try_code : Span → Span → CoreStmt → CoreCatches → MaybeStmt → CoreStmt
  try_code word at body catches last = stmt (Try body catches last) word at

  -- ---- the walk; `label` is that which stands directly before the statement

  abbrev mutual
    pub statement : Targets → Option Identifier → Scope → Progress → Statement → Judged Done
    -- JLS 14.2
    statement j label s pr (tree.block opening b closing) = do
      d ← statements j s pr b
      gives (one (block_of opening closing d) s d.progress)
    -- JLS 14.3, 14.4
    statement j label s pr (tree.local start is_final t vs span) = locals s pr is_final start t vs
    statement j label s pr (tree.local_class d) = local_class p s pr (declared_name d)
    -- JLS 14.6, 14.8
    statement j label s pr (tree.empty span) = gives (one (stmt Empty span span) s pr)
    statement j label s pr (tree.expression_statement start e span) = do
      t ← expression p k s read e
      gives (one (performed start t.node) s (behind p s e pr))
    -- JLS 14.7
    statement j label s pr (tree.labelled id b span) = do
      d ← statement (in_label id b j) (Some id) s pr b
      code ← labelled_code j id b (alone d)
      gives (one code s d.progress)
    -- JLS 14.9
    statement j label s pr (tree.if_only word c b span) = do
      t ← valued s c
      chosen ← statement j None s (behind p s c pr) b
      code ← if_statement word (written.span_of c) t (alone chosen) no_stmt
      gives (one code s chosen.progress)
    statement j label s pr (tree.if_else word c b b' span) = do
      t ← valued s c
      chosen ← statement j None s (behind p s c pr) b
      other ← statement j None s chosen.progress b'
      code ← if_statement word (written.span_of c) t (alone chosen) (a_stmt (alone other))
      gives (one code s other.progress)
    -- JLS 14.12, 14.13
    statement j label s pr (tree.while word c b span) = do
      t ← valued s c
      d ← statement (in_loop j) None s (behind p s c pr) b
      code ← loop_statement word (written.span_of c) t [] (alone d)
      gives (one code s d.progress)
    statement j label s pr (tree.do_while word b c span) = do
      d ← statement (in_loop j) None s pr b
      t ← valued s c
      code ← do_loop word (written.span_of c) (alone d) t
      gives (one code s (behind p s c d.progress))
    -- JLS 14.14
    statement j label s pr (tree.for word start c es b span) = do
      first ← for_start s pr start
      t ← condition_or first.scope word c
      further ← steps first.scope (behind_if first.scope c first.progress) es
      d ← statement (in_loop j) None first.scope further.progress b
      loop ← loop_statement word (condition_span word c) t further.items (alone d)
      gives (one (for_code label word first loop) s d.progress)
    statement j label s pr (tree.for_each word is_final t id e b span) = do
      of ← body_type p s.place.here t
      array ← valued s e
      d ← statement (in_loop j) None (with_element s pr is_final of id)
          (with_number p.heads id.name of is_final id.span (with_hidden (written.span_of e) array (behind p s e pr))) b
      code ← for_each_judged s label word e array (next_number pr) of id (alone d)
      gives (one code s d.progress)
    -- JLS 14.11
    statement j label s pr (tree.switch word e gs span) = do
      t ← valued s e
      ds ← groups (in_switch j) (enum_of p.heads t.type) s (behind p s e pr) gs
      code ← switch_judged word span e (selected_by (enum_of p.heads t.type) t) ds
      gives (one code s ds.progress)
    -- JLS 14.15 to 14.18
    statement j label s pr (tree.break word to span) = do
      code ← jump j false word to
      gives (one code s pr)
    statement j label s pr (tree.continue word to span) = do
      code ← jump j true word to
      gives (one code s pr)
    statement j label s pr (tree.return word e span) = do
      code ← return_judged s word e
      gives (one code s (behind_if s e pr))
    statement j label s pr (tree.throw word e span) = do
      t ← valued s e
      code ← thrown p.heads word (written.span_of e) t
      gives (one code s (behind p s e pr))
    -- JLS 14.20
    statement j label s pr (tree.try word opening b closing cs span) = do
      d ← statements j s pr b
      ds ← catches j s d.progress cs
      caught ← clauses p.heads s ds.items
      gives (one (try_code word word (block_of opening closing d) caught no_stmt) s ds.progress)
    statement j label s pr (tree.try_finally word opening b closing cs at opening' c closing' span) = do
      d ← statements j s pr b
      ds ← catches j s d.progress cs
      last ← statements j s ds.progress c
      caught ← clauses p.heads s ds.items
      gives (one (try_code word at (block_of opening closing d) caught (a_stmt (block_of opening' closing' last)))
          s last.progress)

    -- the scope grows along a block
    pub statements : Targets → Scope → Progress → Statements → Judged Done
    statements j s pr tree.no_statements = gives (nothing_done s pr)
    statements j s pr (tree.more_statements b bs) = do
      d ← statement j None s pr b
      rest ← statements j d.scope d.progress bs
      gives (followed d rest)

    -- so it does along the groups of a `switch`, but a local class is in scope in its own group alone (JLS 6.3)
    pub groups : Targets → Option ℕ → Scope → Progress → Groups → Judged GroupsDone
    groups j of_enum s pr tree.no_groups = gives (record { groups = []; numbers = []; progress = pr })
    groups j of_enum s pr (tree.more_groups ls b gs) = do
      l ← labels p k of_enum s pr ls
      d ← statements j s l.progress b
      rest ← groups j of_enum (with_classes_of s d.scope) d.progress gs
      gives (one_more_group l d rest)

    -- What is caught is a name, not a type: a class without its arguments is no fault there, but of what a `catch` may name.
    pub catches : Targets → Scope → Progress → Catches → Judged (ListDone Clause)
    catches j s pr tree.no_catches = gives (none_done pr)
    catches j s pr (tree.more_catches is_final q id opening b closing cs) = do
      t ← bare_type p s.place.here (caught_name q)
      d ← statements j (with_local is_final (local_of id.name t is_final (next_number pr) None) s)
          (with_number p.heads id.name t is_final id.span pr) b
      rest ← catches j s d.progress cs
      gives (one_more (clause id opening closing pr t q.span d) rest)
