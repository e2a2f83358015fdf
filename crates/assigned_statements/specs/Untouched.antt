-- The variables of a set that are assigned nowhere in a statement. `b` is the set.
use Rattle.std.specs.Prelude.{Option, Some, None}
use Rattle.je_core.specs.declared.types.ClassId.{ClassId}
use Rattle.je_core.specs.Core.{Core, CoreStmt, CoreStmtForm, CoreStmts, MaybeStmt, CoreGroups, CoreCatches, cores, stmt, no_stmts, more_stmts, no_stmt, a_stmt, group, no_groups, more_groups, catch, no_catches, more_catches}
use Rattle.je_core.specs.Core as core
use Rattle.variable_sets.specs.Sets.{Set}
use Rattle.assigned_expressions.specs.Untouched.{untouched, all_untouched}

module _ (home : Option ClassId) where
  abbrev pub value_untouched : Set → Option Core → Set
  value_untouched b None = b
  value_untouched b (Some e) = untouched home b e

  abbrev mutual
    pub statement_untouched : Set → CoreStmt → Set
    statement_untouched b (stmt form span at) = form_untouched b form

    pub form_untouched : Set → CoreStmtForm → Set
    form_untouched b core.Empty = b
    form_untouched b (core.Block locals parts) = parts_untouched b parts
    form_untouched b (core.Do e) = untouched home b e
    form_untouched b (core.If c chosen other) = part_untouched (statement_untouched (untouched home b c) chosen) other
    form_untouched b (core.Loop c steps body) = statement_untouched (all_untouched home (untouched home b c) (cores steps)) body
    form_untouched b (core.DoLoop body c) = untouched home (statement_untouched b body) c
    form_untouched b (core.Switch locals selector groups) = groups_untouched (untouched home b selector) groups
    form_untouched b (core.Labelled name body) = statement_untouched b body
    form_untouched b (core.Jump again target) = b
    form_untouched b (core.Return value) = value_untouched b value
    form_untouched b (core.Throw e) = untouched home b e
    form_untouched b (core.Try body catches last) = part_untouched (catches_untouched (statement_untouched b body) catches) last

    pub parts_untouched : Set → CoreStmts → Set
    parts_untouched b no_stmts = b
    parts_untouched b (more_stmts s ss) = parts_untouched (statement_untouched b s) ss

    pub part_untouched : Set → MaybeStmt → Set
    part_untouched b no_stmt = b
    part_untouched b (a_stmt s) = statement_untouched b s

    pub groups_untouched : Set → CoreGroups → Set
    groups_untouched b no_groups = b
    groups_untouched b (more_groups (group labels parts) gs) = groups_untouched (parts_untouched b parts) gs

    pub catches_untouched : Set → CoreCatches → Set
    catches_untouched b no_catches = b
    catches_untouched b (more_catches (catch local class span body) cs) = catches_untouched (statement_untouched b body) cs
