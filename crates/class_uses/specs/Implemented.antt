-- The rule that no class implements a method of an interface by an inherited member of the library that isn't enabled (JLS 8.4.8): at
-- the span of each class, abstract ones too, that does. An interface implements nothing.
use Rattle.std.specs.Prelude.{ℕ, Bool, true, false, not, ◌&&◌, List, Option, Some, None}
use Rattle.je_core.specs.declared.types.ClassId.{ClassId}
use Rattle.je_core.specs.Core.{CoreClass, CoreProgram}
use Rattle.je_classes.specs.Dispatch.{dispatched}
use Rattle.je_classes.specs.Hierarchy.{class_at, is_below}
use Rattle.je_classes.specs.Members.{Member}
use Rattle.je_fitting.specs.Classes.{is_interface}
use Rattle.je_fitting.specs.Expressions.{is_interface_sort}
use Rattle.je_fitting.specs.way.Quantifying.{implies, each_method}
use Rattle.taming_db.specs.Rows.{Row}
use Rattle.rule_breaks.specs.declared.rules.ConfinementRule.TheVariants as rule
use Rattle.rule_breaks.specs.Breaks.{Breaks, break_where}
use Rattle.node_rules.specs.Enabled.{may_use}

abbrev pub may_use_if : List Row → Option Member → Bool
may_use_if rows None = true
may_use_if rows (Some m) = may_use rows false m

module _ (p : CoreProgram) (rows : List Row) where
  -- what a class has for the method at a place of a class above it may be used, unless that one is no interface
  abbrev pub implements_one : ClassId → ClassId → ℕ → Bool
  implements_one class above at = implies (is_interface (class_at p above)) (may_use_if rows (dispatched p class (record { class = above; at = at })))

  -- each method of the interfaces above a class is implemented by one that may be used
  abbrev pub implements_all : ClassId → Bool
  implements_all class = each_method p (λ above at k. implies (is_below p class above) (implements_one class above at))

  abbrev pub implementing_breaks : ClassId → CoreClass → Breaks
  implementing_breaks class c = break_where (not (is_interface_sort c.kind.sort) && not (implements_all class)) rule.NotEnabled c.span
