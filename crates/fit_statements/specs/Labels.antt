-- A label in scope, as the definitions of what fits have it.
use Rattle.je_fitting.specs.Statements.{Label}
use Rattle.fit_statements.specs.declared.targets.Label.{Label as TheLabel}

abbrev pub label_seen : TheLabel → Label
label_seen l = record { name = l.name; is_loop = l.is_loop }
