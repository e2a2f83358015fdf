-- No variable looks at another in statements: where two sets agree at a variable, so do those that statements make of them.
use Rattle.std.proofs.Common.{ℕ, Option, Some, None}
use Rattle.je_base.specs.declared.span.NameId.{NameId}
use Rattle.je_core.specs.Core.{Core, CoreStmt, CoreStmtForm, CoreStmts, MaybeStmt, CoreGroups, CoreCatches, stmt, no_stmts, more_stmts, no_stmt, a_stmt, group, no_groups, more_groups, catch, no_catches, more_catches}
use Rattle.je_core.specs.Core as core
use Rattle.flow_base.specs.Switches.{has_default}
use Rattle.flow_base.specs.declared.jumps.Way.TheVariants.{Returns}
use Rattle.variable_sets.specs.Numbers.{local_number}
use Rattle.variable_sets.specs.Sets.{Set, everything}
use Rattle.assignment_rules.specs.Rules.{Follow}
use Rattle.assigned_statements.specs.Untouched.{statement_untouched, catches_untouched}
use Rattle.assignment_rules.specs.Ends.{Ends}
use Rattle.assigned_statements.specs.Statements.{value_past, statement_ends, form_ends, loop_from, loop_turn, do_from, do_turn, parts_end, part_ends, groups_end, catches_end, last_ends}
use Rattle.assignment_rules.proofs.Agree.{Agree, AgreeEnds, marking_agree, declared_agree, entry_agree, handled_agree, none_agree, one_agree, going_on_agree, jumping_agree, one_of_agree, in_turn_agree, bottom_agree, loop_agree, labelled_agree, entering_agree, switch_agree, finally_agree, jump_agree}
use Rattle.assigned_expressions.proofs.OneVariable.{after_agree}

module _ {G : Type 0} {v : ℕ} (f : Follow) where
  value_agree : (e : Option Core) {a b : Set} → Agree G v a b → Agree G v (value_past f a e) (value_past f b e)
  value_agree None p = p
  value_agree (Some e) p = (after_agree f e p).all

  mutual
    pub statement_agree : (s : CoreStmt) (label : Option NameId) {a b : Set} → Agree G v a b → AgreeEnds G v (statement_ends f label a s) (statement_ends f label b s)
    statement_agree (stmt form span at) label p = stmt_form_agree form label p

    stmt_form_agree : (form : CoreStmtForm) (label : Option NameId) {a b : Set} → Agree G v a b → AgreeEnds G v (form_ends f label a form) (form_ends f label b form)
    stmt_form_agree core.Empty label p = going_on_agree p
    stmt_form_agree (core.Block locals parts) label p = parts_agree parts (going_on_agree (declared_agree f.rule locals p))
    stmt_form_agree (core.Do e) label p = going_on_agree (after_agree f e p).all
    stmt_form_agree (core.If c chosen other) label p = one_of_agree (statement_agree chosen None (after_agree f c p).on_true) (part_agree other (after_agree f c p).on_false)
    stmt_form_agree (core.Loop c steps body) label p =
        let q = entry_agree f.rule (loop_turn f label c steps body) p in
        loop_agree label (statement_agree body None (after_agree f c q).on_true) (after_agree f c q).on_false
    stmt_form_agree (core.DoLoop body c) label p =
        let inside = statement_agree body None (entry_agree f.rule (do_turn f label body c) p) in
        loop_agree label inside (after_agree f c (bottom_agree label inside)).on_false
    stmt_form_agree (core.Switch locals selector groups) label p =
        let start = declared_agree f.rule locals (after_agree f selector p).all in
        switch_agree (has_default groups) start (groups_agree groups start (jumping_agree none_agree))
    stmt_form_agree (core.Labelled name body) label p = labelled_agree name (statement_agree body (Some name) p)
    stmt_form_agree (core.Jump again target) label p = jump_agree again target p
    stmt_form_agree (core.Return value) label p = jumping_agree (one_agree Returns (value_agree value p))
    stmt_form_agree (core.Throw e) label p = jumping_agree none_agree
    stmt_form_agree (core.Try body catches last) label p =
        let start = handled_agree f.rule (statement_untouched f.home everything body) p in
        last_agree last (handled_agree f.rule (catches_untouched f.home everything catches) start) (catches_agree catches start (statement_agree body None p))

    parts_agree : (ss : CoreStmts) {a b : Ends} → AgreeEnds G v a b → AgreeEnds G v (parts_end f a ss) (parts_end f b ss)
    parts_agree no_stmts p = p
    parts_agree (more_stmts s ss) p = parts_agree ss (in_turn_agree p (statement_agree s None p.after))

    part_agree : (s : MaybeStmt) {a b : Set} → Agree G v a b → AgreeEnds G v (part_ends f a s) (part_ends f b s)
    part_agree no_stmt p = going_on_agree p
    part_agree (a_stmt s) p = statement_agree s None p

    groups_agree : (gs : CoreGroups) {a b : Set} {c d : Ends} → Agree G v a b → AgreeEnds G v c d → AgreeEnds G v (groups_end f a c gs) (groups_end f b d gs)
    groups_agree no_groups p q = q
    groups_agree (more_groups (group labels parts) gs) p q =
        groups_agree gs p (parts_agree parts (record { after = entering_agree labels p q.after; exits = q.exits }))

    catches_agree : (cs : CoreCatches) {a b : Set} {c d : Ends} → Agree G v a b → AgreeEnds G v c d → AgreeEnds G v (catches_end f a c cs) (catches_end f b d cs)
    catches_agree no_catches p q = q
    catches_agree (more_catches (catch local class span body) cs) p q =
        catches_agree cs p (one_of_agree q (statement_agree body None (marking_agree f.rule (local_number local) p)))

    last_agree : (s : MaybeStmt) {a b : Set} {c d : Ends} → Agree G v a b → AgreeEnds G v c d → AgreeEnds G v (last_ends f a c s) (last_ends f b d s)
    last_agree no_stmt p q = q
    last_agree (a_stmt s) p q = finally_agree f.rule q (statement_agree s None p)

  pub loop_from_agree : (label : Option NameId) (c : Core) (body : CoreStmt) {a b : Set} → Agree G v a b → AgreeEnds G v (loop_from f label c body a) (loop_from f label c body b)
  loop_from_agree label c body p = loop_agree label (statement_agree body None (after_agree f c p).on_true) (after_agree f c p).on_false

  pub do_from_agree : (label : Option NameId) (body : CoreStmt) (c : Core) {a b : Set} → Agree G v a b → AgreeEnds G v (do_from f label body c a) (do_from f label body c b)
  do_from_agree label body c p =
      let inside = statement_agree body None p in
      loop_agree label inside (after_agree f c (bottom_agree label inside)).on_false
