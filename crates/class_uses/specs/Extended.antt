-- The rule that a class or interface of the library is extended or implemented only where the taming text opens it, at the name
-- behind `extends` or `implements`, or behind the `new` of an anonymous class (JLS 8.1.4, 8.1.5, 9.1.3, 15.9.5).
use Rattle.std.specs.Prelude.{Bool, not, ◌||◌, List}
use Rattle.je_core.specs.declared.program.Head.{Head}
use Rattle.je_core.specs.declared.types.ClassId.{ClassId}
use Rattle.je_fitting.specs.Members.{is_guest}
use Rattle.taming_db.specs.Rows.{Row}
use Rattle.taming_db.specs.Taming.{is_open}
use Rattle.rule_breaks.specs.declared.rules.ConfinementRule.TheVariants as rule
use Rattle.rule_breaks.specs.Breaks.{Breaks, break_where}

-- a class of a program's own, or one that the taming text opens
abbrev pub may_extend : List Row → ClassId → Bool
may_extend rows class = is_guest class || is_open rows class.0

abbrev pub head_breaks : List Row → Head → Breaks
head_breaks rows h = break_where (not (may_extend rows h.class)) rule.NotExtensible h.span
