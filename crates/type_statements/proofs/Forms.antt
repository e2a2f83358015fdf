-- Statements whose parts are walked: blocks, labels, `if`, `switch`, `try`.
use Rattle.std.proofs.Common.{◌≡◌, List, ◌∷◌, ap, sym, ◌∙◌}
use Rattle.std.specs.Prelude.{ℕ, Bool, Err, IfOk, None, Ok, Option, Result, Some}
use Rattle.je_base.specs.declared.span.Span.{Span}
use Rattle.je_core.specs.Core.{CoreCatches, CoreStmt, a_stmt, no_stmt}
use Rattle.je_ast.specs.declared.name.Identifier.{Identifier}
use Rattle.je_ast.specs.Parts.{BlockPart}
use Rattle.je_ast.specs.Spans.{span_of}
use Rattle.je_ast.specs.Trees.{Catches, Expression, Groups, Statement}
use Rattle.je_fitting.specs.Statements.{Label, Targets, in_switch}
use Rattle.je_typing.specs.declared.fault.Refusal.{Refusal}
use Rattle.je_typing.specs.Judged.{gives}
use Rattle.je_typing.specs.Typed.{TypedNode}
use Rattle.je_typing.proofs.Walks.{bind_gives}
use Rattle.body_typing.specs.FinalVariables.{Scope}
use Rattle.statement_steps.specs.Conditions.{if_statement}
use Rattle.body_typing.specs.Bodies.{Done, Progress, alone, behind, block_of, one}
use Rattle.body_typing.specs.Catches.{Clause, clauses}
use Rattle.body_typing.specs.Statements.{GroupsDone, ListDone, catches, groups, in_label, is_loop, labelled_code, switch_judged, try_code, valued}
use Rattle.body_typing.specs.Switches.{enum_of, selected_by}
use Rattle.statement_forms.specs.declared.done.Done.{Done as Made}
use Rattle.statement_forms.specs.declared.walk.Walk.{Walk}
use Rattle.statement_forms.specs.Seen.{done_in, known_of, program_of, returning_of}
use Rattle.statement_forms.specs.Written.{an_empty, statement_of}
use Rattle.type_statements.specs.Walk.{statements_by}
use Rattle.type_statements.specs.way.Written.{a_block, a_labelled, a_switch, a_try, a_try_finally, an_if, an_if_else, statement_by}

-- one statement, at the scope that is left
pub stands_alone : (code : CoreStmt) (s u : Scope) (q : Progress) (whole : Done) → u ≡ s → whole ≡ one code u q → gives (one code s q) ≡ gives whole
stands_alone code s u q whole l f = ap gives (ap (λ (t : Scope). one code t q) (sym l) ∙ sym f)

-- `;`, whatever jumps may lead to there, and whatever label stands before it
pub empty_stands : (w : Walk) (j : Targets) (label : Option Identifier) (s : Scope) (pr : Progress) (span : Span) (r : Result Made Refusal) →
    IfOk r (λ d. (t : Scope) (q : Progress) → statement_of w t q (an_empty span) ≡ gives (done_in d t q)) →
    IfOk r (λ d. statement_by w j label s pr (an_empty span) ≡ gives (done_in d s pr))
empty_stands w j label s pr span (Ok d) h = h s pr
empty_stands w j label s pr span (Err e) h = tt

-- inside a label, by the labels that are there
abbrev pub with_labels : List Label → Bool → Bool → Targets
with_labels labels has_break has_continue = record { labels = labels; has_break = has_break; has_continue = has_continue }

pub inside_label : (id : Identifier) (b : Statement) (j : Targets) (all own : List Label) (has_break has_continue is : Bool) →
    with_labels own has_break has_continue ≡ j → all ≡ record { name = id.name; is_loop = is } ∷ own → is ≡ is_loop b →
    with_labels all has_break has_continue ≡ in_label id b j
inside_label id b j all own has_break has_continue is v e h =
    let labels : all ≡ record { name = id.name; is_loop = is_loop b } ∷ j.labels = e ∙ (λ i. record { name = id.name; is_loop = h i } ∷ (v i).labels) in
    λ i. with_labels (labels i) (v i).has_break (v i).has_continue

module _ (w : Walk) (j : Targets) (label : Option Identifier) (s : Scope) (pr : Progress) where
  pub block_is : (b : BlockPart) (d whole : Done) (u : Scope) (code : CoreStmt) →
      statements_by w j s pr b.stmts ≡ gives d → u ≡ s → code ≡ block_of b.opening b.closing d → whole ≡ one code u d.progress →
      statement_by w j label s pr (a_block b) ≡ gives whole
  block_is b d whole u code e l c f =
      bind_gives (statements_by w j s pr b.stmts) _ d e
      ∙ ap (λ (x : CoreStmt). gives (one x s d.progress)) (sym c)
      ∙ stands_alone code s u d.progress whole l f

  pub labelled_is : (id : Identifier) (b : Statement) (inner : Targets) (d whole : Done) (u : Scope) (body code : CoreStmt) →
      inner ≡ in_label id b j → statement_by w inner (Some id) s pr b ≡ gives d → u ≡ s → body ≡ alone d →
      labelled_code (program_of w) (known_of w) (returning_of w) j id b body ≡ gives code → whole ≡ one code u d.progress →
      statement_by w j label s pr (a_labelled id b) ≡ gives whole
  labelled_is id b inner d whole u body code t e l a g f =
      bind_gives (statement_by w (in_label id b j) (Some id) s pr b) _ d (ap (λ (k : Targets). statement_by w k (Some id) s pr b) (sym t) ∙ e)
      ∙ bind_gives (labelled_code (program_of w) (known_of w) (returning_of w) j id b (alone d)) _ code
      (ap (labelled_code (program_of w) (known_of w) (returning_of w) j id b) (sym a) ∙ g)
      ∙ stands_alone code s u d.progress whole l f

  module _ (word at : Span) (c : Expression) (t : TypedNode) (p : Progress)
      (asked : valued (program_of w) (known_of w) (returning_of w) s c ≡ gives t) (met : p ≡ behind (program_of w) s c pr) (written : at ≡ span_of c) where
    pub if_is : (b : Statement) (d whole : Done) (u : Scope) (taken code : CoreStmt) →
        statement_by w j None s p b ≡ gives d → u ≡ s → taken ≡ alone d → if_statement word at t taken no_stmt ≡ gives code → whole ≡ one code u d.progress →
        statement_by w j label s pr (an_if word c b) ≡ gives whole
    if_is b d whole u taken code e l a g f =
        bind_gives (valued (program_of w) (known_of w) (returning_of w) s c) _ t asked
        ∙ bind_gives (statement_by w j None s (behind (program_of w) s c pr) b) _ d (ap (λ (q : Progress). statement_by w j None s q b) (sym met) ∙ e)
        ∙ bind_gives (if_statement word (span_of c) t (alone d) no_stmt) _ code ((λ i. if_statement word (sym written i) t (sym a i) no_stmt) ∙ g)
        ∙ stands_alone code s u d.progress whole l f

    pub if_else_is : (b b' : Statement) (d d' whole : Done) (u v : Scope) (taken other code : CoreStmt) →
        statement_by w j None s p b ≡ gives d → u ≡ s → statement_by w j None u d.progress b' ≡ gives d' → v ≡ u → taken ≡ alone d → other ≡ alone d' →
        if_statement word at t taken (a_stmt other) ≡ gives code → whole ≡ one code v d'.progress →
        statement_by w j label s pr (an_if_else word c b b') ≡ gives whole
    if_else_is b b' d d' whole u v taken other code e l e' l' a a' g f =
        bind_gives (valued (program_of w) (known_of w) (returning_of w) s c) _ t asked
        ∙ bind_gives (statement_by w j None s (behind (program_of w) s c pr) b) _ d (ap (λ (q : Progress). statement_by w j None s q b) (sym met) ∙ e)
        ∙ bind_gives (statement_by w j None s d.progress b') _ d' (ap (λ (x : Scope). statement_by w j None x d.progress b') (sym l) ∙ e')
        ∙ bind_gives (if_statement word (span_of c) t (alone d) (a_stmt (alone d'))) _ code
        ((λ i. if_statement word (sym written i) t (sym a i) (a_stmt (sym a' i))) ∙ g)
        ∙ stands_alone code s v d'.progress whole (l' ∙ l) f

  pub switch_is : (word : Span) (e : Expression) (gs : Groups) (span : Span) (t by : TypedNode) (p : Progress) (inner : Targets) (of_enum : Option ℕ) (ds : GroupsDone)
      (u : Scope) (code : CoreStmt) (whole : Done) →
      valued (program_of w) (known_of w) (returning_of w) s e ≡ gives t → p ≡ behind (program_of w) s e pr → inner ≡ in_switch j →
      of_enum ≡ enum_of (program_of w).heads t.type → groups (program_of w) (known_of w) (returning_of w) inner of_enum s p gs ≡ gives ds → u ≡ s →
      by ≡ selected_by of_enum t → switch_judged (program_of w) (known_of w) (returning_of w) word span e by ds ≡ gives code → whole ≡ one code u ds.progress →
      statement_by w j label s pr (a_switch word e gs span) ≡ gives whole
  switch_is word e gs span t by p inner of_enum ds u code whole asked met t' o h l b g f =
      bind_gives (valued (program_of w) (known_of w) (returning_of w) s e) _ t asked
      ∙ bind_gives (groups (program_of w) (known_of w) (returning_of w) (in_switch j) (enum_of (program_of w).heads t.type) s (behind (program_of w) s e pr) gs) _ ds
      ((λ i. groups (program_of w) (known_of w) (returning_of w) (sym t' i) (sym o i) s (sym met i) gs) ∙ h)
      ∙ bind_gives (switch_judged (program_of w) (known_of w) (returning_of w) word span e (selected_by (enum_of (program_of w).heads t.type) t) ds) _ code
      (ap (λ (n : Option ℕ). switch_judged (program_of w) (known_of w) (returning_of w) word span e (selected_by n t) ds) (sym o)
      ∙ ap (λ (n : TypedNode). switch_judged (program_of w) (known_of w) (returning_of w) word span e n ds) (sym b) ∙ g)
      ∙ stands_alone code s u ds.progress whole l f

  -- the block of a `try`, and the catches behind it
  module _ (word : Span) (b : BlockPart) (cs : Catches) (d : Done) (u v : Scope) (body : CoreStmt) (ds : ListDone Clause)
      (e : statements_by w j s pr b.stmts ≡ gives d) (l : u ≡ s) (is : body ≡ block_of b.opening b.closing d)
      (h : catches (program_of w) (known_of w) (returning_of w) j u d.progress cs ≡ gives ds) (l' : v ≡ u) where
    pub try_is : (caught : CoreCatches) (code : CoreStmt) (whole : Done) →
        clauses (program_of w).heads v ds.items ≡ gives caught → code ≡ try_code (program_of w) (known_of w) (returning_of w) word word body caught no_stmt →
        whole ≡ one code v ds.progress → statement_by w j label s pr (a_try word b cs) ≡ gives whole
    try_is caught code whole g c f =
        bind_gives (statements_by w j s pr b.stmts) _ d e
        ∙ bind_gives (catches (program_of w) (known_of w) (returning_of w) j s d.progress cs) _ ds
        (ap (λ (x : Scope). catches (program_of w) (known_of w) (returning_of w) j x d.progress cs) (sym l) ∙ h)
        ∙ bind_gives (clauses (program_of w).heads s ds.items) _ caught (ap (λ (x : Scope). clauses (program_of w).heads x ds.items) (sym (l' ∙ l)) ∙ g)
        ∙ ap (λ (x : CoreStmt). gives (one x s ds.progress))
        (ap (λ (x : CoreStmt). try_code (program_of w) (known_of w) (returning_of w) word word x caught no_stmt) (sym is) ∙ sym c)
        ∙ stands_alone code s v ds.progress whole (l' ∙ l) f

    pub try_finally_is : (at : Span) (b' : BlockPart) (d' whole : Done) (v' : Scope) (end code : CoreStmt) (caught : CoreCatches) →
        statements_by w j v ds.progress b'.stmts ≡ gives d' → v' ≡ v → end ≡ block_of b'.opening b'.closing d' →
        clauses (program_of w).heads v' ds.items ≡ gives caught → code ≡ try_code (program_of w) (known_of w) (returning_of w) word at body caught (a_stmt end) →
        whole ≡ one code v' d'.progress → statement_by w j label s pr (a_try_finally word b cs at b') ≡ gives whole
    try_finally_is at b' d' whole v' end code caught e' m is' g c f =
        bind_gives (statements_by w j s pr b.stmts) _ d e
        ∙ bind_gives (catches (program_of w) (known_of w) (returning_of w) j s d.progress cs) _ ds
        (ap (λ (x : Scope). catches (program_of w) (known_of w) (returning_of w) j x d.progress cs) (sym l) ∙ h)
        ∙ bind_gives (statements_by w j s ds.progress b'.stmts) _ d' (ap (λ (x : Scope). statements_by w j x ds.progress b'.stmts) (sym (l' ∙ l)) ∙ e')
        ∙ bind_gives (clauses (program_of w).heads s ds.items) _ caught (ap (λ (x : Scope). clauses (program_of w).heads x ds.items) (sym (m ∙ l' ∙ l)) ∙ g)
        ∙ ap (λ (x : CoreStmt). gives (one x s d'.progress))
        ((λ i. try_code (program_of w) (known_of w) (returning_of w) word at (sym is i) caught (a_stmt (sym is' i))) ∙ sym c)
        ∙ stands_alone code s v' d'.progress whole (m ∙ l' ∙ l) f
