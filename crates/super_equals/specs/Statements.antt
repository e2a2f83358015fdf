-- The calls of Object's `equals(Object)` by `super` in a statement: those of the expressions that stand in it (JLS 14).
use Rattle.std.specs.Prelude.{Option, Some, None}
use Rattle.je_core.specs.Core.{Core, CoreStmt, CoreStmtForm, CoreStmts, MaybeStmt, CoreGroup, CoreGroups, CoreCatch, CoreCatches, stmt, no_stmts, more_stmts, no_stmt, a_stmt, group, no_groups, more_groups, catch, no_catches, more_catches}
use Rattle.je_core.specs.Core as core
use Rattle.rule_breaks.specs.Breaks.{Breaks, none, ◌∪◌, of_each}
use Rattle.super_equals.specs.Expressions.{calls_in}

abbrev pub calls_in_value : Option Core → Breaks
calls_in_value None = none
calls_in_value (Some e) = calls_in e

abbrev mutual
  pub calls_in_statement : CoreStmt → Breaks
  calls_in_statement (stmt form span at) = calls_in_statement_form form

  pub calls_in_statement_form : CoreStmtForm → Breaks
  calls_in_statement_form core.Empty = none
  calls_in_statement_form (core.Block locals parts) = calls_in_parts parts
  calls_in_statement_form (core.Do e) = calls_in e
  calls_in_statement_form (core.If c chosen other) = calls_in c ∪ calls_in_statement chosen ∪ calls_in_part other
  calls_in_statement_form (core.Loop c steps body) = calls_in c ∪ of_each calls_in steps ∪ calls_in_statement body
  calls_in_statement_form (core.DoLoop body c) = calls_in_statement body ∪ calls_in c
  calls_in_statement_form (core.Switch locals selector groups) = calls_in selector ∪ calls_in_groups groups
  calls_in_statement_form (core.Labelled name body) = calls_in_statement body
  calls_in_statement_form (core.Jump again label) = none
  calls_in_statement_form (core.Return value) = calls_in_value value
  calls_in_statement_form (core.Throw e) = calls_in e
  calls_in_statement_form (core.Try body catches last) = calls_in_statement body ∪ calls_in_catches catches ∪ calls_in_part last

  pub calls_in_parts : CoreStmts → Breaks
  calls_in_parts no_stmts = none
  calls_in_parts (more_stmts s ss) = calls_in_statement s ∪ calls_in_parts ss

  pub calls_in_part : MaybeStmt → Breaks
  calls_in_part no_stmt = none
  calls_in_part (a_stmt s) = calls_in_statement s

  pub calls_in_group : CoreGroup → Breaks
  calls_in_group (group labels parts) = calls_in_parts parts

  pub calls_in_groups : CoreGroups → Breaks
  calls_in_groups no_groups = none
  calls_in_groups (more_groups g gs) = calls_in_group g ∪ calls_in_groups gs

  pub calls_in_catch : CoreCatch → Breaks
  calls_in_catch (catch local class span body) = calls_in_statement body

  pub calls_in_catches : CoreCatches → Breaks
  calls_in_catches no_catches = none
  calls_in_catches (more_catches c cs) = calls_in_catch c ∪ calls_in_catches cs
