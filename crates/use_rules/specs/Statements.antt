-- The breaks of a statement: of the expressions in it, of what its catches take, of a `finally`, and of the fields that the labels
-- of a switch name (JLS 14).
use Rattle.std.specs.Prelude.{List}
use Rattle.je_core.specs.Core.{CoreLabel, CoreStmt, CoreStmtForm, CoreStmts, MaybeStmt, CoreGroup, CoreGroups, CoreCatch, CoreCatches, CoreProgram, stmt, no_stmts, more_stmts, no_stmt, a_stmt, group, no_groups, more_groups, catch, no_catches, more_catches}
use Rattle.je_core.specs.Core as core
use Rattle.je_base.specs.declared.span.Span.{Span}
use Rattle.taming_db.specs.Rows.{Row}
use Rattle.rule_breaks.specs.Breaks.{Breaks, none, ◌∪◌, of_each}
use Rattle.node_rules.specs.Uses.{constant_breaks}
use Rattle.use_rules.specs.Exceptions.{error_breaks, finally_breaks}
use Rattle.use_rules.specs.Expressions.{expression_breaks, value_breaks}

abbrev pub label_breaks : List Row → CoreLabel → Breaks
label_breaks rows l = of_each (constant_breaks rows) l.uses

module _ (p : CoreProgram) (rows : List Row) where
  abbrev mutual
    pub statement_breaks : CoreStmt → Breaks
    statement_breaks (stmt form span at) = form_breaks at form

    pub form_breaks : Span → CoreStmtForm → Breaks
    form_breaks at core.Empty = none
    form_breaks at (core.Block locals parts) = parts_breaks parts
    form_breaks at (core.Do e) = expression_breaks p rows e
    form_breaks at (core.If c chosen other) = expression_breaks p rows c ∪ statement_breaks chosen ∪ part_breaks other
    form_breaks at (core.Loop c steps body) = expression_breaks p rows c ∪ of_each (expression_breaks p rows) steps ∪ statement_breaks body
    form_breaks at (core.DoLoop body c) = statement_breaks body ∪ expression_breaks p rows c
    form_breaks at (core.Switch locals selector groups) = expression_breaks p rows selector ∪ groups_breaks groups
    form_breaks at (core.Labelled name body) = statement_breaks body
    form_breaks at (core.Jump again label) = none
    form_breaks at (core.Return value) = value_breaks p rows value
    form_breaks at (core.Throw e) = expression_breaks p rows e
    form_breaks at (core.Try body catches last) = statement_breaks body ∪ catches_breaks catches ∪ finally_breaks at last ∪ part_breaks last

    pub parts_breaks : CoreStmts → Breaks
    parts_breaks no_stmts = none
    parts_breaks (more_stmts s ss) = statement_breaks s ∪ parts_breaks ss

    pub part_breaks : MaybeStmt → Breaks
    part_breaks no_stmt = none
    part_breaks (a_stmt s) = statement_breaks s

    pub group_breaks : CoreGroup → Breaks
    group_breaks (group labels parts) = of_each (label_breaks rows) labels ∪ parts_breaks parts

    pub groups_breaks : CoreGroups → Breaks
    groups_breaks no_groups = none
    groups_breaks (more_groups g gs) = group_breaks g ∪ groups_breaks gs

    pub catch_breaks : CoreCatch → Breaks
    catch_breaks (catch local class span body) = error_breaks p class span ∪ statement_breaks body

    pub catches_breaks : CoreCatches → Breaks
    catches_breaks no_catches = none
    catches_breaks (more_catches c cs) = catch_breaks c ∪ catches_breaks cs
