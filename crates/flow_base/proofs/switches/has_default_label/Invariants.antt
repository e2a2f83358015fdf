use Rattle.std.proofs.Common.{◌≡◌, drop, map}
use Rattle.std.specs.List.{list_any}
use Rattle.je_core.specs.View.{label_view}
use Rattle.flow_base.specs.Switches.{is_default}
use Rattle.flow_base.proofs.switches.has_default_label.Given as goal

abbrev pub invariant-loop-label : goal.invariant-loop-label
invariant-loop-label l = list_any is_default (map label_view (drop l.label-index l.labels)) ≡ list_any is_default (map label_view l.labels)
