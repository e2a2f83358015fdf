-- The test of a statement decides whether it fits.
use Rattle.std.proofs.Common.{◌≡◌, ℕ, ◌<◌, List, [], ◌∷◌, length, Some, None, refl, sym, subst, arith}
use Rattle.std.specs.Prelude.{Bool, true, false, is_some, nat_lt, slice_get, Option}
use Rattle.std.specs.List.{All, list_all}
use Rattle.std.proofs.lemmas.Bool.Decides.{nat_tests}
use Rattle.std.proofs.lemmas.List.Elements.{All-nil, All-cons, All-head, All-tail}
use Rattle.je_base.specs.declared.span.NameId.{NameId}
use Rattle.je_base.specs.declared.span.Span.{Span}
use Rattle.je_core.specs.declared.expr.Use.{Use}
use Rattle.je_core.specs.declared.types.Ty.{Ty}
use Rattle.je_core.specs.Core.{Core, CoreStmt, CoreStmtForm, CoreStmts, MaybeStmt, CoreLabel, CoreGroups, CoreCatches, CoreProgram, stmt, no_stmts, more_stmts, no_stmt, a_stmt, group, no_groups, more_groups, catch, no_catches, more_catches, ty_of}
use Rattle.je_core.specs.Core as core
use Rattle.je_classes.specs.Subtypes.{class_type}
use Rattle.je_classes.proofs.Same.{same_type-refl, same_type-equal}
use Rattle.je_fitting.specs.Types.{void, agrees}
use Rattle.je_fitting.specs.Expressions.{Body, Fits, field_at, are_there}
use Rattle.je_fitting.specs.Statements as fits
use Rattle.je_fitting.specs.Statements.{Targets, in_loop, in_switch, labelled_by, label_of, is_selector, Gives, no_value, a_value, LocalsThere, StatementFits, StatementsFit, MaybeFits, GroupsFit, CatchesFit, no_statements, more_statements, no_statement, a_statement, no_more_groups, one_more_group, no_more_catches, one_more_catch}
use Rattle.je_fitting.specs.way.Deciding.{is_fit, uses_there}
use Rattle.je_fitting.specs.way.DecidingStatements.{if_some, is_loop_label, gives_value, locals_there, labels_fit, is_statement_fit, is_form_fit, are_statements_fit, is_maybe_fit, are_groups_fit, are_catches_fit}
use Rattle.je_fitting.proofs.Booleans.{two, three, four, both}
use Rattle.je_fitting.proofs.Sound.{sound}
use Rattle.je_fitting.proofs.Complete.{complete}

module _ (p : CoreProgram) (b : Body) where
  -- ---- lists

  each-fits : (es : List Core) → list_all (is_fit p b) es ≡ true → All (Fits p b) es
  each-fits [] e = All-nil (Fits p b)
  each-fits (x ∷ es) e = let q = two e in All-cons (Fits p b) x es (sound p b x q.0) (each-fits es q.1)

  each-passes : (es : List Core) → All (Fits p b) es → list_all (is_fit p b) es ≡ true
  each-passes [] a = refl
  each-passes (x ∷ es) a = both (complete p b x (All-head (Fits p b) x es a)) (each-passes es (All-tail (Fits p b) x es a))

  pub locals-sound : (ns : List ℕ) → locals_there b ns ≡ true → LocalsThere p b ns
  locals-sound [] e = All-nil (λ n. n < length b.locals)
  locals-sound (n ∷ ns) e = let q = two e in
      let h : n < length b.locals = let g : nat_lt n (length b.locals) ≡ true = q.0 in grind (arith, nat_tests) in
      All-cons (λ n. n < length b.locals) n ns h (locals-sound ns q.1)

  pub locals-complete : (ns : List ℕ) → LocalsThere p b ns → locals_there b ns ≡ true
  locals-complete [] a = refl
  locals-complete (n ∷ ns) a =
      let h : n < length b.locals = All-head (λ n. n < length b.locals) n ns a in
      let g : nat_lt n (length b.locals) ≡ true = grind (arith, nat_tests) in
      both g (locals-complete ns (All-tail (λ n. n < length b.locals) n ns a))

  uses-sound : (us : List Use) → uses_there p us ≡ true → are_there p us
  uses-sound [] e = All-nil (λ (u : Use). is_some (field_at p u.class u.field) ≡ true)
  uses-sound (u ∷ us) e = let q = two e in All-cons (λ (u : Use). is_some (field_at p u.class u.field) ≡ true) u us q.0 (uses-sound us q.1)

  uses-complete : (us : List Use) → are_there p us → uses_there p us ≡ true
  uses-complete [] a = refl
  uses-complete (u ∷ us) a = both (All-head (λ (u : Use). is_some (field_at p u.class u.field) ≡ true) u us a) (uses-complete us (All-tail (λ (u : Use). is_some (field_at p u.class u.field) ≡ true) u us a))

  labels-sound : (ls : List CoreLabel) → labels_fit p ls ≡ true → All (λ (l : CoreLabel). are_there p l.uses) ls
  labels-sound [] e = All-nil (λ (l : CoreLabel). are_there p l.uses)
  labels-sound (l ∷ ls) e = let q = two e in All-cons (λ (l : CoreLabel). are_there p l.uses) l ls (uses-sound l.uses q.0) (labels-sound ls q.1)

  labels-complete : (ls : List CoreLabel) → All (λ (l : CoreLabel). are_there p l.uses) ls → labels_fit p ls ≡ true
  labels-complete [] a = refl
  labels-complete (l ∷ ls) a = both (uses-complete l.uses (All-head (λ (l : CoreLabel). are_there p l.uses) l ls a)) (labels-complete ls (All-tail (λ (l : CoreLabel). are_there p l.uses) l ls a))

  local-takes : (test : Ty → Bool) (o : Option Ty) → if_some test o ≡ true → (t : Ty) × (o ≡ Some t) × (test t ≡ true)
  local-takes test None e = absurd cc
  local-takes test (Some t) e = (t, refl, e)

  takes-local : (test : Ty → Bool) (o : Option Ty) (t : Ty) → o ≡ Some t → test t ≡ true → if_some test o ≡ true
  takes-local test None t e q = absurd cc
  takes-local test (Some u) t e q = let r : u ≡ t = cc in subst (λ (z : Ty). test z ≡ true) (sym r) q

  -- ---- jumps and returns

  jump-to : (name : NameId) (j : Targets) (o : Option Bool) (span at : Span) → label_of j.labels name ≡ o → is_some o ≡ true → StatementFits p b j (stmt (core.Jump false (Some name)) span at)
  jump-to name j None span at q e = absurd cc
  jump-to name j (Some l) span at q e = fits.break_to q

  loop-of : (o : Option Bool) → is_loop_label o ≡ true → o ≡ Some true
  loop-of None e = absurd cc
  loop-of (Some true) e = refl
  loop-of (Some false) e = absurd cc

  returns-sound : (r : Option Ty) (value : Option Core) (j : Targets) (span at : Span) → b.returns ≡ r → gives_value p b r value ≡ true → StatementFits p b j (stmt (core.Return value) span at)
  returns-sound None value j span at q e = absurd cc
  returns-sound (Some t) None j span at q e = let v : t ≡ void = same_type-equal t void e in fits.return q (subst (λ (u : Ty). Gives p b u None) (sym v) no_value)
  returns-sound (Some t) (Some x) j span at q e = let r = two e in fits.return q (a_value (sound p b x r.0) r.1)

  gives-complete : (t : Ty) (value : Option Core) → Gives p b t value → gives_value p b (Some t) value ≡ true
  gives-complete _ _ no_value = same_type-refl void
  gives-complete _ _ (a_value {e = e} q a) = both (complete p b e q) a

  -- ---- sound

  mutual
    pub statement_sound : (j : Targets) (s : CoreStmt) → is_statement_fit p b j s ≡ true → StatementFits p b j s
    statement_sound j (stmt form span at) e = form_sound j form span at e

    form_sound : (j : Targets) (form : CoreStmtForm) (span at : Span) → is_form_fit p b j form ≡ true → StatementFits p b j (stmt form span at)
    form_sound j core.Empty span at e = fits.empty
    form_sound j (core.Block locals parts) span at e = let q = two e in fits.block (locals-sound locals q.0) (statements_sound j parts q.1)
    form_sound j (core.Do x) span at e = fits.perform (sound p b x e)
    form_sound j (core.If c chosen other) span at e = let q = four e in fits.if_then (sound p b c q.0) q.1 (statement_sound j chosen q.2) (maybe_sound j other q.3)
    form_sound j (core.Loop c steps inner) span at e = let q = four e in fits.loop (sound p b c q.0) q.1 (each-fits steps q.2) (statement_sound (in_loop j) inner q.3)
    form_sound j (core.DoLoop inner c) span at e = let q = three e in fits.do_loop (statement_sound (in_loop j) inner q.0) (sound p b c q.1) q.2
    form_sound j (core.Switch locals selector groups) span at e = let q = four e in fits.switch (locals-sound locals q.0) (sound p b selector q.1) q.2 (groups_sound (in_switch j) groups q.3)
    form_sound j (core.Labelled name inner) span at e = fits.labelled (statement_sound (labelled_by name inner j) inner e)
    form_sound j (core.Jump false None) span at e = fits.break e
    form_sound j (core.Jump false (Some name)) span at e = jump-to name j (label_of j.labels name) span at refl e
    form_sound j (core.Jump true None) span at e = fits.continue e
    form_sound j (core.Jump true (Some name)) span at e = fits.continue_to (loop-of (label_of j.labels name) e)
    form_sound j (core.Return value) span at e = returns-sound b.returns value j span at refl e
    form_sound j (core.Throw x) span at e = let q = two e in fits.throw (sound p b x q.0) q.1
    form_sound j (core.Try inner catches last) span at e = let q = three e in fits.try (statement_sound j inner q.0) (catches_sound j catches q.1) (maybe_sound j last q.2)

    pub statements_sound : (j : Targets) (ss : CoreStmts) → are_statements_fit p b j ss ≡ true → StatementsFit p b j ss
    statements_sound j no_stmts e = no_statements
    statements_sound j (more_stmts s ss) e = let q = two e in more_statements (statement_sound j s q.0) (statements_sound j ss q.1)

    maybe_sound : (j : Targets) (s : MaybeStmt) → is_maybe_fit p b j s ≡ true → MaybeFits p b j s
    maybe_sound j no_stmt e = no_statement
    maybe_sound j (a_stmt s) e = a_statement (statement_sound j s e)

    groups_sound : (j : Targets) (gs : CoreGroups) → are_groups_fit p b j gs ≡ true → GroupsFit p b j gs
    groups_sound j no_groups e = no_more_groups
    groups_sound j (more_groups (group labels parts) gs) e = let q = three e in one_more_group (labels-sound labels q.0) (statements_sound j parts q.1) (groups_sound j gs q.2)

    catches_sound : (j : Targets) (cs : CoreCatches) → are_catches_fit p b j cs ≡ true → CatchesFit p b j cs
    catches_sound j no_catches e = no_more_catches
    catches_sound j (more_catches (catch local class span inner) cs) e = let q = four e in
        let l = local-takes (agrees p (class_type class)) (slice_get b.locals local) q.0 in one_more_catch l.1 l.2 q.1 (statement_sound j inner q.2) (catches_sound j cs q.3)

  -- ---- complete

  jumps-to : (o : Option Bool) (l : Bool) → o ≡ Some l → is_some o ≡ true
  jumps-to None l e = absurd cc
  jumps-to (Some k) l e = refl

  mutual
    pub statement_complete : (j : Targets) (s : CoreStmt) → StatementFits p b j s → is_statement_fit p b j s ≡ true
    statement_complete _ _ fits.empty = refl
    statement_complete j _ (fits.block {locals = locals} {parts = parts} l q) = both (locals-complete locals l) (statements_complete j parts q)
    statement_complete _ _ (fits.perform {e = x} q) = complete p b x q
    statement_complete j _ (fits.if_then {c = c} {yes = chosen} {no = other} q k y n) = both (both (both (complete p b c q) k) (statement_complete j chosen y)) (maybe_complete j other n)
    statement_complete j _ (fits.loop {c = c} {steps = steps} {inner = inner} q k s i) = both (both (both (complete p b c q) k) (each-passes steps s)) (statement_complete (in_loop j) inner i)
    statement_complete j _ (fits.do_loop {c = c} {inner = inner} i q k) = both (both (statement_complete (in_loop j) inner i) (complete p b c q)) k
    statement_complete j _ (fits.switch {locals = locals} {selector = selector} {groups = groups} l q k g) = both (both (both (locals-complete locals l) (complete p b selector q)) k) (groups_complete (in_switch j) groups g)
    statement_complete j _ (fits.labelled {name = name} {inner = inner} i) = statement_complete (labelled_by name inner j) inner i
    statement_complete _ _ (fits.break q) = q
    statement_complete j _ (fits.break_to {name = name} {is_loop = l} q) = jumps-to (label_of j.labels name) l q
    statement_complete _ _ (fits.continue q) = q
    statement_complete j _ (fits.continue_to {name = name} q) = rw q refl
    statement_complete _ _ (fits.return {t = t} {value = value} q g) = rw q (gives-complete t value g)
    statement_complete _ _ (fits.throw {e = x} q k) = both (complete p b x q) k
    statement_complete j _ (fits.try {inner = inner} {catches = catches} {last = last} i cs l) = both (both (statement_complete j inner i) (catches_complete j catches cs)) (maybe_complete j last l)

    pub statements_complete : (j : Targets) (ss : CoreStmts) → StatementsFit p b j ss → are_statements_fit p b j ss ≡ true
    statements_complete _ _ no_statements = refl
    statements_complete j _ (more_statements {s = s} {ss = ss} q k) = both (statement_complete j s q) (statements_complete j ss k)

    maybe_complete : (j : Targets) (s : MaybeStmt) → MaybeFits p b j s → is_maybe_fit p b j s ≡ true
    maybe_complete _ _ no_statement = refl
    maybe_complete j _ (a_statement {s = s} q) = statement_complete j s q

    groups_complete : (j : Targets) (gs : CoreGroups) → GroupsFit p b j gs → are_groups_fit p b j gs ≡ true
    groups_complete _ _ no_more_groups = refl
    groups_complete j _ (one_more_group {labels = labels} {parts = parts} {gs = gs} l q k) = both (both (labels-complete labels l) (statements_complete j parts q)) (groups_complete j gs k)

    catches_complete : (j : Targets) (cs : CoreCatches) → CatchesFit p b j cs → are_catches_fit p b j cs ≡ true
    catches_complete _ _ no_more_catches = refl
    catches_complete j _ (one_more_catch {local = local} {class = class} {t = t} {inner = inner} {cs = cs} l a k q r) =
        both (both (both (takes-local (agrees p (class_type class)) (slice_get b.locals local) t l a) k) (statement_complete j inner q)) (catches_complete j cs r)
