use Rattle.std.proofs.Common.{◌≡◌, drop, map}
use Rattle.std.specs.Prelude.{is_none}
use Rattle.std.specs.List.{list_any}
use Rattle.je_core.specs.Core.{CoreLabel}
use Rattle.je_core.specs.View.{label_view}
use Rattle.machine_statements.proofs.switch.name_default.Given as goal

abbrev pub invariant-loop-label : goal.invariant-loop-label
invariant-loop-label l = list_any (λ (label : CoreLabel). is_none label.value) (map label_view (drop l.label-index l.labels)) ≡ list_any (λ (label : CoreLabel). is_none label.value) (map label_view l.labels)
