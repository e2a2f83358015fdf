-- The rules of which an expression is judged by itself, beside its parts: by its name token or operator, and its form.
use Rattle.std.specs.Prelude.{List}
use Rattle.je_base.specs.declared.span.Span.{Span}
use Rattle.je_core.specs.Core.{CoreForm, CoreProgram}
use Rattle.taming_db.specs.Rows.{Row}
use Rattle.rule_breaks.specs.Breaks.{Breaks, ◌∪◌}
use Rattle.node_rules.specs.Comparisons.{comparison_breaks}
use Rattle.node_rules.specs.Uses.{member_breaks}
use Rattle.node_rules.specs.ObjectTexts.{text_breaks}

abbrev pub node_breaks : CoreProgram → List Row → Span → CoreForm → Breaks
node_breaks p rows at form = comparison_breaks p rows at form ∪ text_breaks p rows form ∪ member_breaks rows at form
