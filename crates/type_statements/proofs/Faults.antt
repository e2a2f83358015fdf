-- Statements of which a part is at fault.
use Rattle.std.proofs.Common.{◌≡◌, List, [], ap, sym, ◌∙◌}
use Rattle.std.specs.Prelude.{ℕ, ◌+◌, Bool, None, Option, Some}
use Rattle.je_base.specs.declared.span.Span.{Span}
use Rattle.je_core.specs.Core.{Core, CoreStmt, a_stmt, no_stmt}
use Rattle.je_ast.specs.declared.name.Identifier.{Identifier}
use Rattle.je_ast.specs.Parts.{BlockPart}
use Rattle.je_ast.specs.Spans.{span_of}
use Rattle.je_ast.specs.Trees.{Catches, Expression, Expressions, ForInitializer, Groups, MaybeExpression, Statement}
use Rattle.je_ast.specs.Types.{TypeName}
use Rattle.je_fitting.specs.Statements.{Targets, in_loop, in_switch}
use Rattle.je_scopes.specs.SourceTypes.{SourceType}
use Rattle.je_typing.specs.declared.fault.Refusal.{Refusal}
use Rattle.je_typing.specs.Answers.{IsFault}
use Rattle.je_typing.specs.Judged.{gives}
use Rattle.je_typing.specs.Typed.{TypedNode}
use Rattle.je_typing.proofs.Walks.{bind_faults, fault_later}
use Rattle.written_types.proofs.Walking.{fault_of}
use Rattle.body_types.specs.BodyTypes.{body_type}
use Rattle.body_typing.specs.FinalVariables.{Scope}
use Rattle.statement_steps.specs.Conditions.{do_loop, if_statement, loop_statement}
use Rattle.body_typing.specs.Bodies.{Done, Progress, alone, behind, local_of, next_number, with_local, with_number}
use Rattle.body_typing.specs.Catches.{Clause, clauses}
use Rattle.body_typing.specs.Statements.{GroupsDone, ListDone, behind_if, catches, condition_or, condition_span, for_each_judged, for_start, groups, in_label, labelled_code, steps, switch_judged, valued, with_element, with_hidden}
use Rattle.body_typing.specs.Switches.{enum_of, selected_by}
use Rattle.statement_forms.specs.declared.walk.Walk.{Walk}
use Rattle.statement_forms.specs.Seen.{known_of, program_of, returning_of}
use Rattle.type_statements.specs.Walk.{statements_by}
use Rattle.type_statements.specs.way.Written.{a_do_while, a_for, a_for_each, a_labelled, a_switch, a_try, a_try_finally, a_while, an_if, an_if_else, statement_by}
use Rattle.type_statements.proofs.Loops.{element_place}

module _ (w : Walk) (j : Targets) (label : Option Identifier) (s : Scope) (pr : Progress) (r : Refusal) where
  module _ (id : Identifier) (b : Statement) (inner : Targets) (inside : inner ≡ in_label id b j) where
    pub labelled_fails : IsFault (statement_by w inner (Some id) s pr b) r → IsFault (statement_by w j label s pr (a_labelled id b)) r
    labelled_fails h =
        bind_faults (statement_by w (in_label id b j) (Some id) s pr b) _ r
        (fault_of (ap (λ (k : Targets). statement_by w k (Some id) s pr b) (sym inside)) h)

    pub label_fails : (d : Done) (body : CoreStmt) → statement_by w inner (Some id) s pr b ≡ gives d → body ≡ alone d →
        IsFault (labelled_code (program_of w) (known_of w) (returning_of w) j id b body) r → IsFault (statement_by w j label s pr (a_labelled id b)) r
    label_fails d body e a h =
        fault_later (statement_by w (in_label id b j) (Some id) s pr b) _ d r (ap (λ (k : Targets). statement_by w k (Some id) s pr b) (sym inside) ∙ e)
        (bind_faults (labelled_code (program_of w) (known_of w) (returning_of w) j id b (alone d)) _ r
        (fault_of (ap (labelled_code (program_of w) (known_of w) (returning_of w) j id b) (sym a)) h))

  module _ (word : Span) (c : Expression) (t : TypedNode) (p : Progress)
      (asked : valued (program_of w) (known_of w) (returning_of w) s c ≡ gives t) (met : p ≡ behind (program_of w) s c pr) where
    module _ (b : Statement) where
      pub if_fails : IsFault (statement_by w j None s p b) r → IsFault (statement_by w j label s pr (an_if word c b)) r
      if_fails h =
          fault_later (valued (program_of w) (known_of w) (returning_of w) s c) _ t r asked
          (bind_faults (statement_by w j None s (behind (program_of w) s c pr) b) _ r
          (fault_of (ap (λ (q : Progress). statement_by w j None s q b) (sym met)) h))

      pub first_branch_fails : (b' : Statement) → IsFault (statement_by w j None s p b) r → IsFault (statement_by w j label s pr (an_if_else word c b b')) r
      first_branch_fails b' h =
          fault_later (valued (program_of w) (known_of w) (returning_of w) s c) _ t r asked
          (bind_faults (statement_by w j None s (behind (program_of w) s c pr) b) _ r
          (fault_of (ap (λ (q : Progress). statement_by w j None s q b) (sym met)) h))

      pub while_fails : (inner : Targets) → inner ≡ in_loop j → IsFault (statement_by w inner None s p b) r → IsFault (statement_by w j label s pr (a_while word c b)) r
      while_fails inner inside h =
          fault_later (valued (program_of w) (known_of w) (returning_of w) s c) _ t r asked
          (bind_faults (statement_by w (in_loop j) None s (behind (program_of w) s c pr) b) _ r
          (fault_of (λ i. statement_by w (sym inside i) None s (sym met i) b) h))

      module _ (at : Span) (d : Done) (written : at ≡ span_of c) where
        pub if_code_fails : (taken : CoreStmt) → statement_by w j None s p b ≡ gives d → taken ≡ alone d → IsFault (if_statement word at t taken no_stmt) r →
            IsFault (statement_by w j label s pr (an_if word c b)) r
        if_code_fails taken e a h =
            fault_later (valued (program_of w) (known_of w) (returning_of w) s c) _ t r asked
            (fault_later (statement_by w j None s (behind (program_of w) s c pr) b) _ d r (ap (λ (q : Progress). statement_by w j None s q b) (sym met) ∙ e)
            (bind_faults (if_statement word (span_of c) t (alone d) no_stmt) _ r
            (fault_of (λ i. if_statement word (sym written i) t (sym a i) no_stmt) h)))

        pub while_code_fails : (inner : Targets) (nodes : List Core) (body : CoreStmt) → inner ≡ in_loop j → statement_by w inner None s p b ≡ gives d → nodes ≡ [] →
            body ≡ alone d → IsFault (loop_statement word at t nodes body) r → IsFault (statement_by w j label s pr (a_while word c b)) r
        while_code_fails inner nodes body inside e n a h =
            fault_later (valued (program_of w) (known_of w) (returning_of w) s c) _ t r asked
            (fault_later (statement_by w (in_loop j) None s (behind (program_of w) s c pr) b) _ d r ((λ i. statement_by w (sym inside i) None s (sym met i) b) ∙ e)
            (bind_faults (loop_statement word (span_of c) t [] (alone d)) _ r
            (fault_of (λ i. loop_statement word (sym written i) t (sym n i) (sym a i)) h)))

      -- where the first of two branches is walked
      module _ (b' : Statement) (d : Done) (u : Scope) (e : statement_by w j None s p b ≡ gives d) (l : u ≡ s) where
        pub second_branch_fails : IsFault (statement_by w j None u d.progress b') r → IsFault (statement_by w j label s pr (an_if_else word c b b')) r
        second_branch_fails h =
            fault_later (valued (program_of w) (known_of w) (returning_of w) s c) _ t r asked
            (fault_later (statement_by w j None s (behind (program_of w) s c pr) b) _ d r (ap (λ (q : Progress). statement_by w j None s q b) (sym met) ∙ e)
            (bind_faults (statement_by w j None s d.progress b') _ r
            (fault_of (ap (λ (x : Scope). statement_by w j None x d.progress b') (sym l)) h)))

        pub if_else_code_fails : (at : Span) (d' : Done) (taken other : CoreStmt) → at ≡ span_of c → statement_by w j None u d.progress b' ≡ gives d' →
            taken ≡ alone d → other ≡ alone d' → IsFault (if_statement word at t taken (a_stmt other)) r →
            IsFault (statement_by w j label s pr (an_if_else word c b b')) r
        if_else_code_fails at d' taken other written e' a a' h =
            fault_later (valued (program_of w) (known_of w) (returning_of w) s c) _ t r asked
            (fault_later (statement_by w j None s (behind (program_of w) s c pr) b) _ d r (ap (λ (q : Progress). statement_by w j None s q b) (sym met) ∙ e)
            (fault_later (statement_by w j None s d.progress b') _ d' r (ap (λ (x : Scope). statement_by w j None x d.progress b') (sym l) ∙ e')
            (bind_faults (if_statement word (span_of c) t (alone d) (a_stmt (alone d'))) _ r
            (fault_of (λ i. if_statement word (sym written i) t (sym a i) (a_stmt (sym a' i))) h))))

    -- of a `switch`
    module _ (gs : Groups) (span : Span) (inner : Targets) (of_enum : Option ℕ) (inside : inner ≡ in_switch j) (o : of_enum ≡ enum_of (program_of w).heads t.type) where
      pub switch_fails : IsFault (groups (program_of w) (known_of w) (returning_of w) inner of_enum s p gs) r → IsFault (statement_by w j label s pr (a_switch word c gs span)) r
      switch_fails h =
          fault_later (valued (program_of w) (known_of w) (returning_of w) s c) _ t r asked
          (bind_faults (groups (program_of w) (known_of w) (returning_of w) (in_switch j) (enum_of (program_of w).heads t.type) s (behind (program_of w) s c pr) gs) _ r
          (fault_of (λ i. groups (program_of w) (known_of w) (returning_of w) (sym inside i) (sym o i) s (sym met i) gs) h))

      pub switch_code_fails : (ds : GroupsDone) (by : TypedNode) → groups (program_of w) (known_of w) (returning_of w) inner of_enum s p gs ≡ gives ds →
          by ≡ selected_by of_enum t → IsFault (switch_judged (program_of w) (known_of w) (returning_of w) word span c by ds) r →
          IsFault (statement_by w j label s pr (a_switch word c gs span)) r
      switch_code_fails ds by e b h =
          fault_later (valued (program_of w) (known_of w) (returning_of w) s c) _ t r asked
          (fault_later (groups (program_of w) (known_of w) (returning_of w) (in_switch j) (enum_of (program_of w).heads t.type) s (behind (program_of w) s c pr) gs) _ ds r
          ((λ i. groups (program_of w) (known_of w) (returning_of w) (sym inside i) (sym o i) s (sym met i) gs) ∙ e)
          (bind_faults (switch_judged (program_of w) (known_of w) (returning_of w) word span c (selected_by (enum_of (program_of w).heads t.type) t) ds) _ r
          (fault_of (ap (λ (n : Option ℕ). switch_judged (program_of w) (known_of w) (returning_of w) word span c (selected_by n t) ds) (sym o)
          ∙ ap (λ (n : TypedNode). switch_judged (program_of w) (known_of w) (returning_of w) word span c n ds) (sym b)) h)))

  module _ (word : Span) (b : Statement) (c : Expression) (inner : Targets) (d : Done) (u : Scope) (inside : inner ≡ in_loop j)
      (e : statement_by w inner None s pr b ≡ gives d) (l : u ≡ s) where
    pub do_while_fails : IsFault (valued (program_of w) (known_of w) (returning_of w) u c) r → IsFault (statement_by w j label s pr (a_do_while word b c)) r
    do_while_fails h =
        fault_later (statement_by w (in_loop j) None s pr b) _ d r (ap (λ (k : Targets). statement_by w k None s pr b) (sym inside) ∙ e)
        (bind_faults (valued (program_of w) (known_of w) (returning_of w) s c) _ r
        (fault_of (ap (λ (x : Scope). valued (program_of w) (known_of w) (returning_of w) x c) (sym l)) h))

    pub do_while_code_fails : (at : Span) (t : TypedNode) (body : CoreStmt) → valued (program_of w) (known_of w) (returning_of w) u c ≡ gives t → at ≡ span_of c →
        body ≡ alone d → IsFault (do_loop word at body t) r → IsFault (statement_by w j label s pr (a_do_while word b c)) r
    do_while_code_fails at t body asked written a h =
        fault_later (statement_by w (in_loop j) None s pr b) _ d r (ap (λ (k : Targets). statement_by w k None s pr b) (sym inside) ∙ e)
        (fault_later (valued (program_of w) (known_of w) (returning_of w) s c) _ t r
        (ap (λ (x : Scope). valued (program_of w) (known_of w) (returning_of w) x c) (sym l) ∙ asked)
        (bind_faults (do_loop word (span_of c) (alone d) t) _ r
        (fault_of (λ i. do_loop word (sym written i) (sym a i) t) h)))

  module _ (word : Span) (start : ForInitializer) (c : MaybeExpression) (es : Expressions) (b : Statement) (first : Done)
      (begun : for_start (program_of w) (known_of w) (returning_of w) s pr start ≡ gives first) where
    pub for_condition_fails : IsFault (condition_or (program_of w) (known_of w) (returning_of w) first.scope word c) r →
        IsFault (statement_by w j label s pr (a_for word start c es b)) r
    for_condition_fails h =
        fault_later (for_start (program_of w) (known_of w) (returning_of w) s pr start) _ first r begun
        (bind_faults (condition_or (program_of w) (known_of w) (returning_of w) first.scope word c) _ r h)

    module _ (t : TypedNode) (p : Progress) (asked : condition_or (program_of w) (known_of w) (returning_of w) first.scope word c ≡ gives t)
        (met : p ≡ behind_if (program_of w) (known_of w) (returning_of w) first.scope c first.progress) where
      pub for_steps_fail : IsFault (steps (program_of w) (known_of w) (returning_of w) first.scope p es) r →
          IsFault (statement_by w j label s pr (a_for word start c es b)) r
      for_steps_fail h =
          fault_later (for_start (program_of w) (known_of w) (returning_of w) s pr start) _ first r begun
          (fault_later (condition_or (program_of w) (known_of w) (returning_of w) first.scope word c) _ t r asked
          (bind_faults (steps (program_of w) (known_of w) (returning_of w) first.scope
          (behind_if (program_of w) (known_of w) (returning_of w) first.scope c first.progress) es) _ r
          (fault_of (ap (λ (x : Progress). steps (program_of w) (known_of w) (returning_of w) first.scope x es) (sym met)) h)))

      module _ (further : ListDone Core) (inner : Targets) (stepped : steps (program_of w) (known_of w) (returning_of w) first.scope p es ≡ gives further)
          (inside : inner ≡ in_loop j) where
        pub for_fails : IsFault (statement_by w inner None first.scope further.progress b) r → IsFault (statement_by w j label s pr (a_for word start c es b)) r
        for_fails h =
            fault_later (for_start (program_of w) (known_of w) (returning_of w) s pr start) _ first r begun
            (fault_later (condition_or (program_of w) (known_of w) (returning_of w) first.scope word c) _ t r asked
            (fault_later (steps (program_of w) (known_of w) (returning_of w) first.scope
            (behind_if (program_of w) (known_of w) (returning_of w) first.scope c first.progress) es) _ further r
            (ap (λ (x : Progress). steps (program_of w) (known_of w) (returning_of w) first.scope x es) (sym met) ∙ stepped)
            (bind_faults (statement_by w (in_loop j) None first.scope further.progress b) _ r
            (fault_of (ap (λ (x : Targets). statement_by w x None first.scope further.progress b) (sym inside)) h))))

        pub for_code_fails : (d : Done) (at : Span) (body : CoreStmt) → statement_by w inner None first.scope further.progress b ≡ gives d →
            at ≡ condition_span (program_of w) (known_of w) (returning_of w) word c → body ≡ alone d → IsFault (loop_statement word at t further.items body) r →
            IsFault (statement_by w j label s pr (a_for word start c es b)) r
        for_code_fails d at body e written a h =
            fault_later (for_start (program_of w) (known_of w) (returning_of w) s pr start) _ first r begun
            (fault_later (condition_or (program_of w) (known_of w) (returning_of w) first.scope word c) _ t r asked
            (fault_later (steps (program_of w) (known_of w) (returning_of w) first.scope
            (behind_if (program_of w) (known_of w) (returning_of w) first.scope c first.progress) es) _ further r
            (ap (λ (x : Progress). steps (program_of w) (known_of w) (returning_of w) first.scope x es) (sym met) ∙ stepped)
            (fault_later (statement_by w (in_loop j) None first.scope further.progress b) _ d r
            (ap (λ (x : Targets). statement_by w x None first.scope further.progress b) (sym inside) ∙ e)
            (bind_faults (loop_statement word (condition_span (program_of w) (known_of w) (returning_of w) word c) t further.items (alone d)) _ r
            (fault_of (λ i. loop_statement word (sym written i) t further.items (sym a i)) h)))))

  -- of a `for` over an array
  module _ (word : Span) (is_final : Bool) (t : TypeName) (id : Identifier) (e : Expression) (b : Statement) (of : SourceType)
      (typed : body_type (program_of w) s.place.here t ≡ gives of) where
    pub array_fails : IsFault (valued (program_of w) (known_of w) (returning_of w) s e) r →
        IsFault (statement_by w j label s pr (a_for_each word is_final t id e b)) r
    array_fails h =
        fault_later (body_type (program_of w) s.place.here t) _ of r typed (bind_faults (valued (program_of w) (known_of w) (returning_of w) s e) _ r h)

    module _ (n : ℕ) (array : TypedNode) (p q : Progress) (x : Scope) (inner : Targets) (number : n ≡ next_number pr)
        (asked : valued (program_of w) (known_of w) (returning_of w) s e ≡ gives array) (met : p ≡ behind (program_of w) s e pr)
        (there : x ≡ with_local is_final (local_of id.name of is_final (n + 2) None) s)
        (so_far : q ≡ with_number (program_of w).heads id.name of is_final id.span (with_hidden (program_of w) (known_of w) (returning_of w) (span_of e) array p))
        (inside : inner ≡ in_loop j) where
      pub for_each_fails : IsFault (statement_by w inner None x q b) r → IsFault (statement_by w j label s pr (a_for_each word is_final t id e b)) r
      for_each_fails h =
          fault_later (body_type (program_of w) s.place.here t) _ of r typed
          (fault_later (valued (program_of w) (known_of w) (returning_of w) s e) _ array r asked
          (bind_faults (statement_by w (in_loop j) None (with_element (program_of w) (known_of w) (returning_of w) s pr is_final of id)
          (with_number (program_of w).heads id.name of is_final id.span
          (with_hidden (program_of w) (known_of w) (returning_of w) (span_of e) array (behind (program_of w) s e pr))) b) _ r
          (fault_of (element_place w j inner s pr is_final id e b of n array p q x number met there so_far inside) h)))

      pub for_each_code_fails : (d : Done) (u : Scope) (body : CoreStmt) → statement_by w inner None x q b ≡ gives d → u ≡ s → body ≡ alone d →
          IsFault (for_each_judged (program_of w) (known_of w) (returning_of w) u label word e array n of id body) r →
          IsFault (statement_by w j label s pr (a_for_each word is_final t id e b)) r
      for_each_code_fails d u body walked l a h =
          fault_later (body_type (program_of w) s.place.here t) _ of r typed
          (fault_later (valued (program_of w) (known_of w) (returning_of w) s e) _ array r asked
          (fault_later (statement_by w (in_loop j) None (with_element (program_of w) (known_of w) (returning_of w) s pr is_final of id)
          (with_number (program_of w).heads id.name of is_final id.span
          (with_hidden (program_of w) (known_of w) (returning_of w) (span_of e) array (behind (program_of w) s e pr))) b) _ d r
          (element_place w j inner s pr is_final id e b of n array p q x number met there so_far inside ∙ walked)
          (bind_faults (for_each_judged (program_of w) (known_of w) (returning_of w) s label word e array (next_number pr) of id (alone d)) _ r
          (fault_of (λ i. for_each_judged (program_of w) (known_of w) (returning_of w) (sym l i) label word e array (sym number i) of id (sym a i)) h))))

  -- behind the block of a `try`
  module _ (word : Span) (b : BlockPart) (cs : Catches) (d : Done) (u : Scope) (e : statements_by w j s pr b.stmts ≡ gives d) (l : u ≡ s) where
    module _ (h : IsFault (catches (program_of w) (known_of w) (returning_of w) j u d.progress cs) r) where
      pub try_fails : IsFault (statement_by w j label s pr (a_try word b cs)) r
      try_fails =
          fault_later (statements_by w j s pr b.stmts) _ d r e
          (bind_faults (catches (program_of w) (known_of w) (returning_of w) j s d.progress cs) _ r
          (fault_of (ap (λ (x : Scope). catches (program_of w) (known_of w) (returning_of w) j x d.progress cs) (sym l)) h))

      pub finally_catches_fail : (at : Span) (b' : BlockPart) → IsFault (statement_by w j label s pr (a_try_finally word b cs at b')) r
      finally_catches_fail at b' =
          fault_later (statements_by w j s pr b.stmts) _ d r e
          (bind_faults (catches (program_of w) (known_of w) (returning_of w) j s d.progress cs) _ r
          (fault_of (ap (λ (x : Scope). catches (program_of w) (known_of w) (returning_of w) j x d.progress cs) (sym l)) h))

    module _ (ds : ListDone Clause) (v : Scope) (g : catches (program_of w) (known_of w) (returning_of w) j u d.progress cs ≡ gives ds) (l' : v ≡ s) where
      pub clauses_fail : IsFault (clauses (program_of w).heads v ds.items) r → IsFault (statement_by w j label s pr (a_try word b cs)) r
      clauses_fail h =
          fault_later (statements_by w j s pr b.stmts) _ d r e
          (fault_later (catches (program_of w) (known_of w) (returning_of w) j s d.progress cs) _ ds r
          (ap (λ (x : Scope). catches (program_of w) (known_of w) (returning_of w) j x d.progress cs) (sym l) ∙ g)
          (bind_faults (clauses (program_of w).heads s ds.items) _ r (fault_of (ap (λ (x : Scope). clauses (program_of w).heads x ds.items) (sym l')) h)))

      module _ (at : Span) (b' : BlockPart) where
        pub finally_fails : IsFault (statements_by w j v ds.progress b'.stmts) r → IsFault (statement_by w j label s pr (a_try_finally word b cs at b')) r
        finally_fails h =
            fault_later (statements_by w j s pr b.stmts) _ d r e
            (fault_later (catches (program_of w) (known_of w) (returning_of w) j s d.progress cs) _ ds r
            (ap (λ (x : Scope). catches (program_of w) (known_of w) (returning_of w) j x d.progress cs) (sym l) ∙ g)
            (bind_faults (statements_by w j s ds.progress b'.stmts) _ r
            (fault_of (ap (λ (x : Scope). statements_by w j x ds.progress b'.stmts) (sym l')) h)))

        pub finally_clauses_fail : (d' : Done) (v' : Scope) → statements_by w j v ds.progress b'.stmts ≡ gives d' → v' ≡ s →
            IsFault (clauses (program_of w).heads v' ds.items) r → IsFault (statement_by w j label s pr (a_try_finally word b cs at b')) r
        finally_clauses_fail d' v' e' m h =
            fault_later (statements_by w j s pr b.stmts) _ d r e
            (fault_later (catches (program_of w) (known_of w) (returning_of w) j s d.progress cs) _ ds r
            (ap (λ (x : Scope). catches (program_of w) (known_of w) (returning_of w) j x d.progress cs) (sym l) ∙ g)
            (fault_later (statements_by w j s ds.progress b'.stmts) _ d' r (ap (λ (x : Scope). statements_by w j x ds.progress b'.stmts) (sym l') ∙ e')
            (bind_faults (clauses (program_of w).heads s ds.items) _ r (fault_of (ap (λ (x : Scope). clauses (program_of w).heads x ds.items) (sym m)) h))))
