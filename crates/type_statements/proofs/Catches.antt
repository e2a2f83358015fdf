-- The catches of a `try`, one after the other.
use Rattle.std.proofs.Common.{◌≡◌, ℕ, ◌+◌, ◌<◌, ◌≤◌, List, [], ◌∷◌, ◌++◌, length, drop, get_or, map, refl, ap, sym, ◌∙◌, append_assoc, append-nil}
use Rattle.std.proofs.lemmas.List.{map-append}
use Rattle.std.specs.Prelude.{None}
use Rattle.je_core.specs.Core.{CoreStmt}
use Rattle.je_ast.specs.declared.stmt.Catch.{Catch}
use Rattle.je_ast.specs.Parts.{CatchPart, catches as catch_list}
use Rattle.je_ast.specs.View.{catch_view, catch_views_of}
use Rattle.je_fitting.specs.Statements.{Targets}
use Rattle.je_scopes.specs.SourceTypes.{SourceType}
use Rattle.je_typing.specs.declared.fault.Refusal.{Refusal}
use Rattle.je_typing.specs.Answers.{IsFault}
use Rattle.je_typing.specs.Judged.{Judged, gives, bind}
use Rattle.written_types.proofs.Walking.{fault_of}
use Rattle.body_types.specs.BodyTypes.{bare_type}
use Rattle.je_typing.proofs.Walks.{bind_faults, bind_gives, fault_later}
use Rattle.name_typing.specs.Program.{LocalVariable}
use Rattle.body_typing.specs.FinalVariables.{Scope}
use Rattle.body_typing.specs.Bodies.{Done, Progress, block_of, local_of, next_number, with_local, with_number}
use Rattle.body_typing.specs.Catches.{Clause, caught_name}
use Rattle.body_typing.specs.Statements.{ListDone, catches, clause, none_done, one_more}
use Rattle.statement_forms.specs.declared.catches.Clause.{Clause as Written}
use Rattle.statement_forms.specs.View.{clause_seen}
use Rattle.statement_forms.proofs.Following.{bind_behind, bind_kept}
use Rattle.statement_forms.specs.declared.walk.Walk.{Walk}
use Rattle.statement_forms.specs.Seen.{known_of, program_of, returning_of}
use Rattle.type_statements.proofs.Gathering.{gather_fails, gathered, gathered_all, gathers_on}
use Rattle.type_statements.specs.Walk.{statements_by}
use Rattle.type_statements.specs.way.Caught.{CaughtDone, one_catch}

-- one catch, whose type is known
module _ (w : Walk) (j : Targets) (s : Scope) (pr : Progress) (c : CatchPart) (t : SourceType) (n : ℕ) (v : LocalVariable) (u : Scope)
    (q : Progress) (e : bare_type (program_of w) s.place.here (caught_name c.class) ≡ gives t) (m : n ≡ next_number pr)
    (is : v ≡ local_of c.name.name t c.is_final n None) (l : u ≡ with_local c.is_final v s)
    (p : q ≡ with_number (program_of w).heads c.name.name t c.is_final c.name.span pr) where
  block-place : statements_by w j (with_local c.is_final (local_of c.name.name t c.is_final (next_number pr) None) s)
      (with_number (program_of w).heads c.name.name t c.is_final c.name.span pr) c.block.stmts
      ≡ statements_by w j u q c.block.stmts
  block-place =
      (λ i. statements_by w j (with_local c.is_final (local_of c.name.name t c.is_final (sym m i) None) s)
      (with_number (program_of w).heads c.name.name t c.is_final c.name.span pr) c.block.stmts)
      ∙ ap (λ (x : LocalVariable). statements_by w j (with_local c.is_final x s) (with_number (program_of w).heads c.name.name t c.is_final c.name.span pr) c.block.stmts)
      (sym is)
      ∙ (λ i. statements_by w j (sym l i) (sym p i) c.block.stmts)

  pub catch_is : (d : Done) (body : CoreStmt) → statements_by w j u q c.block.stmts ≡ gives d → body ≡ block_of c.block.opening c.block.closing d →
      one_catch w j s pr c
      ≡ gives (record { clause = record { name = c.name; number = n; type = t; name_span = c.class.span; body = body }; progress = d.progress })
  catch_is d body h b =
      bind_gives (bare_type (program_of w) s.place.here (caught_name c.class)) _ t e
      ∙ bind_gives (statements_by w j (with_local c.is_final (local_of c.name.name t c.is_final (next_number pr) None) s)
      (with_number (program_of w).heads c.name.name t c.is_final c.name.span pr) c.block.stmts) _ d (block-place ∙ h)
      ∙ (λ i. gives (record { clause = record { name = c.name; number = sym m i; type = t; name_span = c.class.span; body = sym b i }; progress = d.progress }))

  pub catch_fails : (r : Refusal) → IsFault (statements_by w j u q c.block.stmts) r → IsFault (one_catch w j s pr c) r
  catch_fails r h =
      fault_later (bare_type (program_of w) s.place.here (caught_name c.class)) _ t r e
      (bind_faults (statements_by w j (with_local c.is_final (local_of c.name.name t c.is_final (next_number pr) None) s)
      (with_number (program_of w).heads c.name.name t c.is_final c.name.span pr) c.block.stmts) _ r (fault_of block-place h))

-- behind clauses whose blocks are walked
abbrev pub after_catches : List Clause → ListDone Clause → ListDone Clause
after_catches cs rest = record { items = cs ++ rest.items; progress = rest.progress }

module _ (w : Walk) (j : Targets) (s : Scope) where
  abbrev catches_from : Progress → List CatchPart → Judged (ListDone Clause)
  catches_from pr cs = catches (program_of w) (known_of w) (returning_of w) j s pr (catch_list cs)

  abbrev catches_of : Progress → List Catch → Judged (ListDone Clause)
  catches_of pr cs = catches (program_of w) (known_of w) (returning_of w) j s pr (catch_views_of cs)

  abbrev judged : Progress → Catch → Judged CaughtDone
  judged pr c = one_catch w j s pr (catch_view c)

  abbrev after : Progress → Catch → CaughtDone → Progress
  after pr c d = d.progress

  abbrev block_in : Progress → CatchPart → SourceType → Judged Done
  block_in pr c t =
      statements_by w j (with_local c.is_final (local_of c.name.name t c.is_final (next_number pr) None) s)
      (with_number (program_of w).heads c.name.name t c.is_final c.name.span pr) c.block.stmts

  abbrev caught : Progress → CatchPart → SourceType → Done → CaughtDone
  caught pr c t d = record {
    clause = clause (program_of w) (known_of w) (returning_of w) c.name c.block.opening c.block.closing pr t c.class.span d;
    progress = d.progress;
  }

  by-catch : (pr : Progress) (c : CatchPart) (cs : List CatchPart) →
      catches_from pr (c ∷ cs) ≡ bind (one_catch w j s pr c) (λ d. bind (catches_from d.progress cs) (λ rest. gives (one_more d.clause rest)))
  unfolding bind
  by-catch pr c cs =
      let rest_of : CaughtDone → Judged (ListDone Clause) = λ (d : CaughtDone). bind (catches_from d.progress cs) (λ rest. gives (one_more d.clause rest)) in
      let type = bare_type (program_of w) s.place.here (caught_name c.class) in
      sym (bind_behind type (λ (t : SourceType). bind (block_in pr c t) (λ (d : Done). gives (caught pr c t d))) rest_of
      ∙ (λ i. bind type (λ (t : SourceType). bind_behind (block_in pr c t) (λ (d : Done). gives (caught pr c t d)) rest_of i)))

  module _ (cs : List Catch) where
    abbrev pub catches_left : Judged (ListDone Clause) → List Written → Progress → ℕ → Type 0
    catches_left whole made pr i = whole ≡ gathered (after_catches (map clause_seen made)) (catches_of pr (drop i cs))

    pub catches_begin : (made : List Written) (pr : Progress) → made ≡ [] → catches_left (catches_of pr cs) made pr 0
    catches_begin made pr none =
        sym (bind_kept (catches_of pr cs) (λ rest. gives (after_catches [] rest)) (λ rest. refl))
        ∙ ap (λ (done : List Written). gathered (after_catches (map clause_seen done)) (catches_of pr cs)) (sym none)

    module _ (whole : Judged (ListDone Clause)) (i : ℕ) (made : List Written) (pr : Progress) where
      abbrev added : Progress → Catch → CaughtDone → ListDone Clause → ListDone Clause
      added at c d = one_more d.clause

      law : (at : Progress) (c : Catch) (rest : List Catch) →
          catches_of at (c ∷ rest) ≡ bind (judged at c) (λ d. bind (catches_of (after at c d) rest) (λ more. gives (added at c d more)))
      law at c rest = by-catch at (catch_view c) (map catch_view rest)

      pub catches_on : (c : Catch) (ready : List Written) (new : Written) (later : Progress) (here : Scope) → here ≡ s → i < length cs → c ≡ get_or cs i c →
          catches_left whole made pr i → one_catch w j here pr (catch_view c) ≡ gives (record { clause = clause_seen new; progress = later }) →
          ready ≡ made ++ new ∷ [] → catches_left whole ready later (i + 1)
      catches_on c ready new later here at within is met g r =
          let all : map clause_seen ready ≡ map clause_seen made ++ clause_seen new ∷ [] = ap (map clause_seen) r ∙ map-append clause_seen made (new ∷ []) in
          gathers_on catches_of judged after added law cs i pr whole (after_catches (map clause_seen made)) c within is met
          (record { clause = clause_seen new; progress = later }) later (after_catches (map clause_seen ready))
          (ap (λ (x : Scope). one_catch w j x pr (catch_view c)) (sym at) ∙ g) refl
          (λ rest. ap (λ (ds : List Clause). record { items = ds; progress = rest.progress })
          (sym (append_assoc (map clause_seen made) (clause_seen new ∷ []) rest.items) ∙ ap (λ (ds : List Clause). ds ++ rest.items) (sym all)))

      pub catches_fail : (c : Catch) (r : Refusal) (here : Scope) → here ≡ s → i < length cs → c ≡ get_or cs i c → catches_left whole made pr i →
          IsFault (one_catch w j here pr (catch_view c)) r → IsFault whole r
      catches_fail c r here at within is met f =
          gather_fails catches_of judged after added law cs i pr whole (after_catches (map clause_seen made)) c within is met r
          (fault_of (ap (λ (x : Scope). one_catch w j x pr (catch_view c)) (sym at)) f)

      pub catches_end : length cs ≤ i → catches_left whole made pr i → whole ≡ gives (record { items = map clause_seen made; progress = pr })
      catches_end past met =
          gathered_all catches_of judged after added law cs i pr whole (after_catches (map clause_seen made))
          (none_done pr) (record { items = map clause_seen made; progress = pr }) past refl
          (ap (λ (ds : List Clause). record { items = ds; progress = pr }) (append-nil (map clause_seen made))) met
