-- The rule that a constructor of the library is called only where it is enabled, where a constructor calls that of the superclass by no
-- word of its own (JLS 8.8.7): at the span of its class.
use Rattle.std.specs.Prelude.{Bool, false, not, List, Option, Some, None}
use Rattle.je_base.specs.declared.span.Span.{Span}
use Rattle.je_core.specs.declared.types.ClassId.{ClassId}
use Rattle.je_core.specs.Core.{CoreMethod, CoreClass, CoreProgram}
use Rattle.je_classes.specs.Members.{Member}
use Rattle.constructor_calls.specs.Calls.{implicitly_called}
use Rattle.taming_db.specs.Rows.{Row}
use Rattle.rule_breaks.specs.declared.rules.ConfinementRule.TheVariants as rule
use Rattle.rule_breaks.specs.Breaks.{Breaks, none, break_where, of_each}
use Rattle.node_rules.specs.Enabled.{may_use}

abbrev pub call_breaks : List Row → Span → Option Member → Breaks
call_breaks rows span None = none
call_breaks rows span (Some m) = break_where (not (may_use rows false m)) rule.NotEnabled span

-- of a method of a class with that superclass and span
abbrev pub implicit_breaks : CoreProgram → List Row → Option ClassId → Span → CoreMethod → Breaks
implicit_breaks p rows superclass span m = call_breaks rows span (implicitly_called p superclass m)

abbrev pub constructing_breaks : CoreProgram → List Row → CoreClass → Breaks
constructing_breaks p rows c = of_each (implicit_breaks p rows c.superclass c.span) c.methods
