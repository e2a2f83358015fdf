-- What a statement can throw (JLS 11.2.2), and the catches in it that take nothing.
use Rattle.std.specs.Prelude.{ℕ, Bool, true, List, [], ◌∷◌, Option, Some, None}
use Rattle.je_base.specs.declared.span.Span.{Span}
use Rattle.je_core.specs.declared.types.Base.{Base}
use Rattle.je_core.specs.declared.types.Base.TheVariants as base
use Rattle.je_core.specs.declared.types.ClassId.{ClassId}
use Rattle.je_core.specs.Core.{Core, CoreStmt, CoreStmtForm, CoreStmts, MaybeStmt, CoreGroups, CoreCatches, CoreProgram, cores, stmt, no_stmts, more_stmts, no_stmt, a_stmt, group, no_groups, more_groups, catch, no_catches, more_catches, ty_of}
use Rattle.je_core.specs.Core as core
use Rattle.flow_base.specs.FaultSets.{Faults, none, ◌∪◌}
use Rattle.reachability.specs.Programs.{completes}
use Rattle.reported_exceptions.specs.Throws.{Throws, nothing, ◌also◌, tried, before_finally, thrown, out_of}
use Rattle.reported_exceptions.specs.Handled.{catch_faults}
use Rattle.reported_exceptions.specs.Expressions.{throws, all_throws}

-- a `throw` throws the class of its expression
abbrev pub base_throws : CoreProgram → Base → Span → Throws
base_throws p (base.Class class) at = thrown p class at
base_throws p _ at = nothing

abbrev pub lets_pass : MaybeStmt → Bool
lets_pass no_stmt = true
lets_pass (a_stmt s) = completes s

module _ (p : CoreProgram) (makings : List (List ClassId)) where
  abbrev pub value_throws : Option Core → Throws
  value_throws None = nothing
  value_throws (Some e) = throws p makings e

  abbrev mutual
    pub statement_throws : CoreStmt → Throws
    statement_throws (stmt form span at) = form_throws span form

    pub form_throws : Span → CoreStmtForm → Throws
    form_throws at core.Empty = nothing
    form_throws at (core.Block locals parts) = parts_throw parts
    form_throws at (core.Do e) = throws p makings e
    form_throws at (core.If c chosen other) = throws p makings c also statement_throws chosen also part_throws other
    form_throws at (core.Loop c steps body) = throws p makings c also all_throws p makings (cores steps) also statement_throws body
    form_throws at (core.DoLoop body c) = statement_throws body also throws p makings c
    form_throws at (core.Switch locals selector groups) = throws p makings selector also groups_throw groups
    form_throws at (core.Labelled name body) = statement_throws body
    form_throws at (core.Jump again target) = nothing
    form_throws at (core.Return value) = value_throws value
    -- The word `throw` is the first token.
    form_throws at (core.Throw e) = throws p makings e also base_throws p (ty_of e).base at
    form_throws at (core.Try body catches last) =
        before_finally (tried (statement_throws body) catches also catches_throw catches) (lets_pass last) also part_throws last

    pub parts_throw : CoreStmts → Throws
    parts_throw no_stmts = nothing
    parts_throw (more_stmts s ss) = statement_throws s also parts_throw ss

    pub part_throws : MaybeStmt → Throws
    part_throws no_stmt = nothing
    part_throws (a_stmt s) = statement_throws s

    pub groups_throw : CoreGroups → Throws
    groups_throw no_groups = nothing
    groups_throw (more_groups (group labels parts) gs) = parts_throw parts also groups_throw gs

    pub catches_throw : CoreCatches → Throws
    catches_throw no_catches = nothing
    catches_throw (more_catches (catch local class span body) cs) = statement_throws body also catches_throw cs

  -- ---- the faults of catches in a statement

  abbrev mutual
    pub statement_faults : CoreStmt → Faults
    statement_faults (stmt form span at) = form_faults form

    pub form_faults : CoreStmtForm → Faults
    form_faults (core.Block locals parts) = parts_faults parts
    form_faults (core.If c chosen other) = statement_faults chosen ∪ part_faults other
    form_faults (core.Loop c steps body) = statement_faults body
    form_faults (core.DoLoop body c) = statement_faults body
    form_faults (core.Switch locals selector groups) = groups_faults groups
    form_faults (core.Labelled name body) = statement_faults body
    form_faults (core.Try body catches last) =
        statement_faults body ∪ catch_faults p (out_of p (statement_throws body)) [] catches ∪ catches_faults catches ∪ part_faults last
    form_faults core.Empty = none
    form_faults (core.Do e) = none
    form_faults (core.Jump again target) = none
    form_faults (core.Return value) = none
    form_faults (core.Throw e) = none

    pub parts_faults : CoreStmts → Faults
    parts_faults no_stmts = none
    parts_faults (more_stmts s ss) = statement_faults s ∪ parts_faults ss

    pub part_faults : MaybeStmt → Faults
    part_faults no_stmt = none
    part_faults (a_stmt s) = statement_faults s

    pub groups_faults : CoreGroups → Faults
    groups_faults no_groups = none
    groups_faults (more_groups (group labels parts) gs) = parts_faults parts ∪ groups_faults gs

    pub catches_faults : CoreCatches → Faults
    catches_faults no_catches = none
    catches_faults (more_catches (catch local class span body) cs) = statement_faults body ∪ catches_faults cs
