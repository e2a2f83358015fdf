-- A test of the form of each expression and of each statement that stands in a body, at any depth.
use Rattle.std.specs.Prelude.{Bool, true, ◌&&◌, List, Option, Some, None}
use Rattle.std.specs.List.{list_all}
use Rattle.je_core.specs.Core.{Core, CoreForm, Cores, MaybeCore, node, none, more, no_core, a_core}
use Rattle.je_core.specs.Core.{CoreStmt, CoreStmtForm, CoreStmts, MaybeStmt, CoreGroup, CoreGroups, CoreCatch, CoreCatches, stmt, no_stmts, more_stmts, no_stmt, a_stmt, group, no_groups, more_groups, catch, no_catches, more_catches}
use Rattle.je_core.specs.Core as core

module _ (test : CoreForm → Bool) where
  abbrev mutual
    pub every : Core → Bool
    every (node form t span at) = test form && every_part form

    pub every_part : CoreForm → Bool
    every_part (core.Const v uses) = true
    every_part (core.Text units uses) = true
    every_part (core.Local n) = true
    every_part core.This = true
    every_part (core.Field o c n) = every o
    every_part (core.Static o c n) = every_if o
    every_part (core.Index a i) = every a && every i
    every_part (core.Length a) = every a
    every_part (core.Assign place value) = every place && every value
    every_part (core.Update place o operand old) = every place && every_if operand
    every_part (core.Unary o e) = every e
    every_part (core.Binary o l r) = every l && every r
    every_part (core.And l r) = every l && every r
    every_part (core.Or l r) = every l && every r
    every_part (core.Choose c y n) = every c && every y && every n
    every_part (core.Convert e) = every e
    every_part (core.Cast e) = every e
    every_part (core.InstanceOf e u) = every e
    every_part (core.Concat l r) = every l && every r
    every_part (core.CallVirtual o c n args) = every o && every_of args
    every_part (core.CallExact o c n args) = every_if o && every_of args
    every_part (core.New c n args captures word) = every_of args
    every_part (core.NewArray lengths) = every_of lengths
    every_part (core.ArrayOf values) = every_of values

    pub every_if : MaybeCore → Bool
    every_if no_core = true
    every_if (a_core e) = every e

    pub every_of : Cores → Bool
    every_of none = true
    every_of (more e es) = every e && every_of es

  abbrev pub every_value : Option Core → Bool
  every_value None = true
  every_value (Some e) = every e

module _ (test : CoreForm → Bool) (asked : CoreStmtForm → Bool) where
  abbrev mutual
    pub throughout : CoreStmt → Bool
    throughout (stmt form span at) = asked form && throughout_parts form

    pub throughout_parts : CoreStmtForm → Bool
    throughout_parts core.Empty = true
    throughout_parts (core.Block locals parts) = throughout_all parts
    throughout_parts (core.Do e) = every test e
    throughout_parts (core.If c y n) = every test c && throughout y && throughout_if n
    throughout_parts (core.Loop c steps inner) = every test c && list_all (every test) steps && throughout inner
    throughout_parts (core.DoLoop inner c) = throughout inner && every test c
    throughout_parts (core.Switch locals selector groups) = every test selector && throughout_groups groups
    throughout_parts (core.Labelled name inner) = throughout inner
    throughout_parts (core.Jump again label) = true
    throughout_parts (core.Return value) = every_value test value
    throughout_parts (core.Throw e) = every test e
    throughout_parts (core.Try inner catches last) = throughout inner && throughout_catches catches && throughout_if last

    pub throughout_all : CoreStmts → Bool
    throughout_all no_stmts = true
    throughout_all (more_stmts s ss) = throughout s && throughout_all ss

    pub throughout_if : MaybeStmt → Bool
    throughout_if no_stmt = true
    throughout_if (a_stmt s) = throughout s

    pub throughout_group : CoreGroup → Bool
    throughout_group (group labels parts) = throughout_all parts

    pub throughout_groups : CoreGroups → Bool
    throughout_groups no_groups = true
    throughout_groups (more_groups g gs) = throughout_group g && throughout_groups gs

    pub throughout_catch : CoreCatch → Bool
    throughout_catch (catch n c span inner) = throughout inner

    pub throughout_catches : CoreCatches → Bool
    throughout_catches no_catches = true
    throughout_catches (more_catches c cs) = throughout_catch c && throughout_catches cs

-- a test of the expressions of a body alone, and of its statements alone

abbrev pub every_expression : (CoreForm → Bool) → CoreStmt → Bool
every_expression test s = throughout test (λ f. true) s

abbrev pub every_statement : (CoreStmtForm → Bool) → CoreStmt → Bool
every_statement asked s = throughout (λ f. true) asked s
