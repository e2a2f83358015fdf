-- The breaks of an expression: its own, and those of its parts (JLS 15).
use Rattle.std.specs.Prelude.{List, Option, Some, None}
use Rattle.je_core.specs.Core.{Core, CoreForm, Cores, MaybeCore, CoreProgram, node, none as no_cores, more, no_core, a_core}
use Rattle.je_core.specs.Core as core
use Rattle.taming_db.specs.Rows.{Row}
use Rattle.rule_breaks.specs.Breaks.{Breaks, none, ◌∪◌}
use Rattle.node_rules.specs.Nodes.{node_breaks}

module _ (p : CoreProgram) (rows : List Row) where
  abbrev mutual
    pub expression_breaks : Core → Breaks
    expression_breaks (node form ty span at) = node_breaks p rows at form ∪ parts_breaks form

    pub parts_breaks : CoreForm → Breaks
    parts_breaks (core.Const v uses) = none
    parts_breaks (core.Text units uses) = none
    parts_breaks (core.Local n) = none
    parts_breaks core.This = none
    parts_breaks (core.Field o c n) = expression_breaks o
    parts_breaks (core.Static o c n) = maybe_breaks o
    parts_breaks (core.Index a i) = expression_breaks a ∪ expression_breaks i
    parts_breaks (core.Length a) = expression_breaks a
    parts_breaks (core.Assign place value) = expression_breaks place ∪ expression_breaks value
    parts_breaks (core.Update place o operand old) = expression_breaks place ∪ maybe_breaks operand
    parts_breaks (core.Unary o e) = expression_breaks e
    parts_breaks (core.Binary o l r) = expression_breaks l ∪ expression_breaks r
    parts_breaks (core.And l r) = expression_breaks l ∪ expression_breaks r
    parts_breaks (core.Or l r) = expression_breaks l ∪ expression_breaks r
    parts_breaks (core.Choose c chosen other) = expression_breaks c ∪ expression_breaks chosen ∪ expression_breaks other
    parts_breaks (core.Convert e) = expression_breaks e
    parts_breaks (core.Cast e) = expression_breaks e
    parts_breaks (core.InstanceOf e u) = expression_breaks e
    parts_breaks (core.Concat l r) = expression_breaks l ∪ expression_breaks r
    parts_breaks (core.CallVirtual o c n args) = expression_breaks o ∪ all_breaks args
    parts_breaks (core.CallExact o c n args) = maybe_breaks o ∪ all_breaks args
    parts_breaks (core.New c n args captures word) = all_breaks args
    parts_breaks (core.NewArray lengths) = all_breaks lengths
    parts_breaks (core.ArrayOf values) = all_breaks values

    pub maybe_breaks : MaybeCore → Breaks
    maybe_breaks no_core = none
    maybe_breaks (a_core e) = expression_breaks e

    pub all_breaks : Cores → Breaks
    all_breaks no_cores = none
    all_breaks (more e es) = expression_breaks e ∪ all_breaks es

  -- a value that may be missing: of a `return`, or the constant of a field
  abbrev pub value_breaks : Option Core → Breaks
  value_breaks None = none
  value_breaks (Some e) = expression_breaks e
