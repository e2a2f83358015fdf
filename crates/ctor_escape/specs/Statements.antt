-- Where `this` escapes in a statement: in the expressions that stand in it (JLS 14).
use Rattle.std.specs.Prelude.{List, Option, Some, None}
use Rattle.je_core.specs.Core.{Core, CoreStmt, CoreStmtForm, CoreStmts, MaybeStmt, CoreGroup, CoreGroups, CoreCatch, CoreCatches, CoreProgram, stmt, no_stmts, more_stmts, no_stmt, a_stmt, group, no_groups, more_groups, catch, no_catches, more_catches}
use Rattle.je_core.specs.Core as core
use Rattle.rule_breaks.specs.Breaks.{Breaks, none, ◌∪◌, of_each}
use Rattle.ctor_escape.specs.Expressions.{escapes}

module _ (p : CoreProgram) where
  abbrev pub value_escapes : Option Core → Breaks
  value_escapes None = none
  value_escapes (Some e) = escapes p e

  abbrev mutual
    pub statement_escapes : CoreStmt → Breaks
    statement_escapes (stmt form span at) = form_escapes form

    pub form_escapes : CoreStmtForm → Breaks
    form_escapes core.Empty = none
    form_escapes (core.Block locals parts) = parts_escape parts
    form_escapes (core.Do e) = escapes p e
    form_escapes (core.If c chosen other) = escapes p c ∪ statement_escapes chosen ∪ part_escapes other
    form_escapes (core.Loop c steps body) = escapes p c ∪ of_each (escapes p) steps ∪ statement_escapes body
    form_escapes (core.DoLoop body c) = statement_escapes body ∪ escapes p c
    form_escapes (core.Switch locals selector groups) = escapes p selector ∪ groups_escape groups
    form_escapes (core.Labelled name body) = statement_escapes body
    form_escapes (core.Jump again label) = none
    form_escapes (core.Return value) = value_escapes value
    form_escapes (core.Throw e) = escapes p e
    form_escapes (core.Try body catches last) = statement_escapes body ∪ catches_escape catches ∪ part_escapes last

    pub parts_escape : CoreStmts → Breaks
    parts_escape no_stmts = none
    parts_escape (more_stmts s ss) = statement_escapes s ∪ parts_escape ss

    pub part_escapes : MaybeStmt → Breaks
    part_escapes no_stmt = none
    part_escapes (a_stmt s) = statement_escapes s

    pub group_escapes : CoreGroup → Breaks
    group_escapes (group labels parts) = parts_escape parts

    pub groups_escape : CoreGroups → Breaks
    groups_escape no_groups = none
    groups_escape (more_groups g gs) = group_escapes g ∪ groups_escape gs

    pub catch_escapes : CoreCatch → Breaks
    catch_escapes (catch local class span body) = statement_escapes body

    pub catches_escape : CoreCatches → Breaks
    catches_escape no_catches = none
    catches_escape (more_catches c cs) = catch_escapes c ∪ catches_escape cs
