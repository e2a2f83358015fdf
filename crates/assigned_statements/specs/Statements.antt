-- Which variables are definitely assigned, or definitely unassigned, after a statement, and before each exit of it by a jump, by
-- those that are before it; and the faults in it (JLS 16.2). `label` is the label directly before a statement, `b` the set before.
-- What is said of 'assigned' holds of both.
use Rattle.std.specs.Prelude.{ℕ, Option, Some, None, List, [], ◌∷◌}
use Rattle.je_base.specs.declared.span.NameId.{NameId}
use Rattle.je_base.specs.declared.span.Span.{Span}
use Rattle.je_core.specs.Core.{Core, CoreLabel, CoreStmt, CoreStmtForm, CoreStmts, MaybeStmt, CoreGroups, CoreCatches, cores, stmt, no_stmts, more_stmts, no_stmt, a_stmt, group, no_groups, more_groups, catch, no_catches, more_catches}
use Rattle.je_core.specs.Core as core
use Rattle.flow_base.specs.declared.jumps.Way.TheVariants.{Returns}
use Rattle.flow_base.specs.Switches.{has_default}
use Rattle.flow_base.specs.FaultSets.{Faults, none, ◌∪◌}
use Rattle.variable_sets.specs.Numbers.{local_number}
use Rattle.variable_sets.specs.Sets.{Set, everything}
use Rattle.variable_sets.specs.ExitSets.{no_exits, exit_by}
use Rattle.assignment_rules.specs.declared.sites.Site.TheVariants.{Declaration}
use Rattle.assignment_rules.specs.Rules.{Follow, marking, declared, entry, handled}
use Rattle.assignment_rules.specs.Ends.{Ends, ends, going_on, jumping, one_of, in_turn, bottom, loop_ends, labelled_ends, entering, switch_ends, past_finally, jump_ends}
use Rattle.assigned_statements.specs.Untouched.{statement_untouched, catches_untouched}
use Rattle.assigned_expressions.specs.Reads.{standing_faults}
use Rattle.assigned_expressions.specs.Expressions.{whole, when_true, when_false, after, all_past, faults, all_faults}

-- the first byte of a statement, and of a group of a switch
abbrev pub start_of : CoreStmt → ℕ
start_of (stmt form span at) = span.start

abbrev pub first_byte : List CoreLabel → Option ℕ
first_byte [] = None
first_byte (l ∷ ls) = Some l.span.start

module _ (f : Follow) where
  abbrev pub value_past : Set → Option Core → Set
  value_past b None = b
  value_past b (Some e) = whole (after f b e)

  abbrev pub value_faults : Set → Option Core → Faults
  value_faults b None = none
  value_faults b (Some e) = faults f b e

  abbrev mutual
    pub statement_ends : Option NameId → Set → CoreStmt → Ends
    statement_ends label b (stmt form span at) = form_ends label b form

    pub form_ends : Option NameId → Set → CoreStmtForm → Ends
    form_ends label b core.Empty = going_on b
    -- 16.2.2
    form_ends label b (core.Block locals parts) = parts_end (going_on (declared f.rule locals b)) parts
    form_ends label b (core.Do e) = going_on (whole (after f b e))
    -- 16.2.7
    form_ends label b (core.If c chosen other) =
        one_of (statement_ends None (when_true (after f b c)) chosen) (part_ends (when_false (after f b c)) other)
    -- 16.2.10, 16.2.12: a turn is past the condition, the body and the steps.
    form_ends label b (core.Loop c steps body) =
        let turn = all_past f (bottom label (statement_ends None (when_true (after f everything c)) body)) (cores steps) in
        let test = after f (entry f.rule b turn) c in
        loop_ends label (statement_ends None (when_true test) body) (when_false test)
    -- 16.2.11: a turn is past the body and the condition.
    form_ends label b (core.DoLoop body c) =
        let turn = when_true (after f (bottom label (statement_ends None everything body)) c) in
        let inside = statement_ends None (entry f.rule b turn) body in
        loop_ends label inside (when_false (after f (bottom label inside) c))
    form_ends label b (core.Switch locals selector groups) =
        let start = declared f.rule locals (whole (after f b selector)) in
        switch_ends (has_default groups) start (groups_end start (jumping no_exits) groups)
    form_ends label b (core.Labelled name body) = labelled_ends name (statement_ends (Some name) b body)
    -- 16.2.13
    form_ends label b (core.Jump again target) = jump_ends b again target
    form_ends label b (core.Return value) = jumping (exit_by Returns (value_past b value))
    form_ends label b (core.Throw e) = jumping no_exits
    form_ends label b (core.Try body catches last) =
        let start = handled f.rule b (statement_untouched f.home everything body) in
        last_ends (handled f.rule start (catches_untouched f.home everything catches)) (catches_end start (statement_ends None b body) catches) last

    pub parts_end : Ends → CoreStmts → Ends
    parts_end before no_stmts = before
    parts_end before (more_stmts s ss) = parts_end (in_turn before (statement_ends None before.after s)) ss

    pub part_ends : Set → MaybeStmt → Ends
    part_ends b no_stmt = going_on b
    part_ends b (a_stmt s) = statement_ends None b s

    pub groups_end : Set → Ends → CoreGroups → Ends
    groups_end start before no_groups = before
    groups_end start before (more_groups (group labels parts) gs) =
        groups_end start (parts_end (ends (entering start labels before.after) before.exits) parts) gs

    -- The parameter of a catch is assigned.
    pub catches_end : Set → Ends → CoreCatches → Ends
    catches_end b before no_catches = before
    catches_end b before (more_catches (catch local class span body) cs) =
        catches_end b (one_of before (statement_ends None (marking f.rule (local_number local) b) body)) cs

    pub last_ends : Set → Ends → MaybeStmt → Ends
    last_ends b before no_stmt = before
    last_ends b before (a_stmt s) = past_finally f.rule before (statement_ends None b s)

  -- what a `while` or a `for` leaves, were this the set before its condition, and a turn of it, were all so there
  abbrev pub loop_from : Option NameId → Core → CoreStmt → Set → Ends
  loop_from label c body e = loop_ends label (statement_ends None (when_true (after f e c)) body) (when_false (after f e c))

  abbrev pub loop_turn : Option NameId → Core → List Core → CoreStmt → Set
  loop_turn label c steps body = all_past f (bottom label (statement_ends None (when_true (after f everything c)) body)) (cores steps)

  -- what a `do` leaves, were this the set before its body, and a turn of it, were all so there
  abbrev pub do_from : Option NameId → CoreStmt → Core → Set → Ends
  do_from label body c e =
      loop_ends label (statement_ends None e body) (when_false (after f (bottom label (statement_ends None e body)) c))

  abbrev pub do_turn : Option NameId → CoreStmt → Core → Set
  do_turn label body c = when_true (after f (bottom label (statement_ends None everything body)) c)

  -- 16.2.3: V is assigned before a local class where it is after the statement before it, and the declaration changes nothing. A core
  -- program has no statement for it: the class's span tells between which statements of a list it stands.
  abbrev pub declared_faults : Option ℕ → ℕ → Option ℕ → Set → Faults
  declared_faults None from to b = none
  declared_faults (Some list) from to b = standing_faults f.rule (Declaration list from to) b f.standing

  -- `list` is the first byte of the list of statements that a block or a group has, `from` that of the statement before.
  abbrev mutual
    pub statement_faults : Option NameId → Set → CoreStmt → Faults
    statement_faults label b (stmt form span at) = form_faults label span b form

    pub form_faults : Option NameId → Span → Set → CoreStmtForm → Faults
    form_faults label span b core.Empty = none
    form_faults label span b (core.Block locals parts) = parts_faults (Some span.start) 0 (going_on (declared f.rule locals b)) parts
    form_faults label span b (core.Do e) = faults f b e
    form_faults label span b (core.If c chosen other) =
        faults f b c ∪ statement_faults None (when_true (after f b c)) chosen ∪ part_faults (when_false (after f b c)) other
    form_faults label span b (core.Loop c steps body) =
        let e = entry f.rule b (loop_turn label c steps body) in
        let start = when_true (after f e c) in
        faults f e c ∪ statement_faults None start body ∪ all_faults f (bottom label (statement_ends None start body)) (cores steps)
    form_faults label span b (core.DoLoop body c) =
        let e = entry f.rule b (do_turn label body c) in
        statement_faults None e body ∪ faults f (bottom label (statement_ends None e body)) c
    form_faults label span b (core.Switch locals selector groups) =
        faults f b selector ∪ groups_faults (declared f.rule locals (whole (after f b selector))) (jumping no_exits) groups
    form_faults label span b (core.Labelled name body) = statement_faults (Some name) b body
    form_faults label span b (core.Jump again target) = none
    form_faults label span b (core.Return value) = value_faults b value
    form_faults label span b (core.Throw e) = faults f b e
    form_faults label span b (core.Try body catches last) =
        let start = handled f.rule b (statement_untouched f.home everything body) in
        statement_faults None b body ∪ catches_faults start catches
        ∪ part_faults (handled f.rule start (catches_untouched f.home everything catches)) last

    pub parts_faults : Option ℕ → ℕ → Ends → CoreStmts → Faults
    parts_faults list from before no_stmts = declared_faults list from None before.after
    parts_faults list from before (more_stmts s ss) =
        declared_faults list from (Some (start_of s)) before.after ∪ statement_faults None before.after s
        ∪ parts_faults list (start_of s) (in_turn before (statement_ends None before.after s)) ss

    pub part_faults : Set → MaybeStmt → Faults
    part_faults b no_stmt = none
    part_faults b (a_stmt s) = statement_faults None b s

    pub groups_faults : Set → Ends → CoreGroups → Faults
    groups_faults start before no_groups = none
    groups_faults start before (more_groups (group labels parts) gs) =
        let first = ends (entering start labels before.after) before.exits in
        parts_faults (first_byte labels) 0 first parts ∪ groups_faults start (parts_end first parts) gs

    pub catches_faults : Set → CoreCatches → Faults
    catches_faults b no_catches = none
    catches_faults b (more_catches (catch local class span body) cs) =
        statement_faults None (marking f.rule (local_number local) b) body ∪ catches_faults b cs
