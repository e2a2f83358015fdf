-- Something is true of each expression that stands in a body, at any depth.
use Rattle.std.specs.Prelude.{List, [], ◌∷◌, Option, Some, None}
use Rattle.je_core.specs.Core.{Core, CoreForm, Cores, MaybeCore, node, none, more, no_core, a_core}
use Rattle.je_core.specs.Core.{CoreStmt, CoreStmtForm, CoreStmts, MaybeStmt, CoreGroup, CoreGroups, CoreCatch, CoreCatches, stmt, no_stmts, more_stmts, no_stmt, a_stmt, group, no_groups, more_groups, catch, no_catches, more_catches}
use Rattle.je_core.specs.Core as core

module _ (P : Core → Type 0) where
  abbrev mutual
    pub Every : Core → Type 0
    Every (node form t span at) = P (node form t span at) × EveryPart form

    pub EveryPart : CoreForm → Type 0
    EveryPart (core.Const v uses) = Unit {0}
    EveryPart (core.Text units uses) = Unit {0}
    EveryPart (core.Local n) = Unit {0}
    EveryPart core.This = Unit {0}
    EveryPart (core.Field o c n) = Every o
    EveryPart (core.Static o c n) = EveryIf o
    EveryPart (core.Index a i) = Every a × Every i
    EveryPart (core.Length a) = Every a
    EveryPart (core.Assign place value) = Every place × Every value
    EveryPart (core.Update place o operand old) = Every place × EveryIf operand
    EveryPart (core.Unary o e) = Every e
    EveryPart (core.Binary o l r) = Every l × Every r
    EveryPart (core.And l r) = Every l × Every r
    EveryPart (core.Or l r) = Every l × Every r
    EveryPart (core.Choose c y n) = Every c × Every y × Every n
    EveryPart (core.Convert e) = Every e
    EveryPart (core.Cast e) = Every e
    EveryPart (core.InstanceOf e u) = Every e
    EveryPart (core.Concat l r) = Every l × Every r
    EveryPart (core.CallVirtual o c n args) = Every o × EveryOf args
    EveryPart (core.CallExact o c n args) = EveryIf o × EveryOf args
    EveryPart (core.New c n args captures word) = EveryOf args
    EveryPart (core.NewArray lengths) = EveryOf lengths
    EveryPart (core.ArrayOf values) = EveryOf values

    pub EveryIf : MaybeCore → Type 0
    EveryIf no_core = Unit {0}
    EveryIf (a_core e) = Every e

    pub EveryOf : Cores → Type 0
    EveryOf none = Unit {0}
    EveryOf (more e es) = Every e × EveryOf es

  abbrev pub EveryValue : Option Core → Type 0
  EveryValue None = Unit {0}
  EveryValue (Some e) = Every e

  abbrev pub EveryStep : List Core → Type 0
  EveryStep [] = Unit {0}
  EveryStep (e ∷ es) = Every e × EveryStep es

  abbrev mutual
    pub Throughout : CoreStmt → Type 0
    Throughout (stmt form span at) = ThroughoutParts form

    pub ThroughoutParts : CoreStmtForm → Type 0
    ThroughoutParts core.Empty = Unit {0}
    ThroughoutParts (core.Block locals parts) = ThroughoutAll parts
    ThroughoutParts (core.Do e) = Every e
    ThroughoutParts (core.If c y n) = Every c × Throughout y × ThroughoutIf n
    ThroughoutParts (core.Loop c steps inner) = Every c × EveryStep steps × Throughout inner
    ThroughoutParts (core.DoLoop inner c) = Throughout inner × Every c
    ThroughoutParts (core.Switch locals selector groups) = Every selector × ThroughoutGroups groups
    ThroughoutParts (core.Labelled name inner) = Throughout inner
    ThroughoutParts (core.Jump again label) = Unit {0}
    ThroughoutParts (core.Return value) = EveryValue value
    ThroughoutParts (core.Throw e) = Every e
    ThroughoutParts (core.Try inner catches last) = Throughout inner × ThroughoutCatches catches × ThroughoutIf last

    pub ThroughoutAll : CoreStmts → Type 0
    ThroughoutAll no_stmts = Unit {0}
    ThroughoutAll (more_stmts s ss) = Throughout s × ThroughoutAll ss

    pub ThroughoutIf : MaybeStmt → Type 0
    ThroughoutIf no_stmt = Unit {0}
    ThroughoutIf (a_stmt s) = Throughout s

    pub ThroughoutGroup : CoreGroup → Type 0
    ThroughoutGroup (group labels parts) = ThroughoutAll parts

    pub ThroughoutGroups : CoreGroups → Type 0
    ThroughoutGroups no_groups = Unit {0}
    ThroughoutGroups (more_groups g gs) = ThroughoutGroup g × ThroughoutGroups gs

    pub ThroughoutCatch : CoreCatch → Type 0
    ThroughoutCatch (catch n c span inner) = Throughout inner

    pub ThroughoutCatches : CoreCatches → Type 0
    ThroughoutCatches no_catches = Unit {0}
    ThroughoutCatches (more_catches c cs) = ThroughoutCatch c × ThroughoutCatches cs
