-- The rule that a member of the library is used only where it is enabled: at the name of a method or field, and at the name of the
-- class behind `new` or the word of a constructor call (JLS 15.9, 15.11, 15.12, 8.8.7.1). What counts is the member that look-up finds.
use Rattle.std.specs.Prelude.{ℕ, Bool, true, false, not, List}
use Rattle.je_base.specs.declared.span.Span.{Span}
use Rattle.je_core.specs.declared.expr.Use.{Use}
use Rattle.je_core.specs.declared.types.ClassId.{ClassId}
use Rattle.je_core.specs.Core.{CoreForm}
use Rattle.je_core.specs.Core as core
use Rattle.taming_db.specs.Rows.{Row}
use Rattle.rule_breaks.specs.declared.rules.ConfinementRule.TheVariants as rule
use Rattle.rule_breaks.specs.Breaks.{Breaks, none, break_where, of_each}
use Rattle.node_rules.specs.Enabled.{may_use}

module _ (rows : List Row) where
  -- of a field, or of a method or constructor, named at a token
  abbrev pub use_breaks : Bool → ClassId → ℕ → Span → Breaks
  use_breaks is_field class at span = break_where (not (may_use rows is_field (record { class = class; at = at }))) rule.NotEnabled span

  -- a field that a constant expression names (JLS 15.28)
  abbrev pub constant_breaks : Use → Breaks
  constant_breaks u = use_breaks true u.class u.field u.span

  abbrev pub member_breaks : Span → CoreForm → Breaks
  member_breaks at (core.Const v uses) = of_each constant_breaks uses
  member_breaks at (core.Text units uses) = of_each constant_breaks uses
  member_breaks at (core.Field o c n) = use_breaks true c n at
  member_breaks at (core.Static o c n) = use_breaks true c n at
  member_breaks at (core.CallVirtual o c n args) = use_breaks false c n at
  member_breaks at (core.CallExact o c n args) = use_breaks false c n at
  member_breaks at (core.New c n args captures word) = use_breaks false c n at
  member_breaks at _ = none
