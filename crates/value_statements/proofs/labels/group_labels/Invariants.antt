use Rattle.std.proofs.Common.{drop, map}
use Rattle.je_core.specs.View.{label_view}
use Rattle.name_types.specs.View.{shown}
use Rattle.source_subtypes.specs.View.{heads_of}
use Rattle.statement_steps.specs.Switches.{Met}
use Rattle.value_statements.specs.Labels.{Knows, label_seen}
use Rattle.value_statements.proofs.Labelled.{Labelling}
use Rattle.value_statements.proofs.labels.group_labels.Given as goal

abbrev pub invariant-loop-at : goal.invariant-loop-at
invariant-loop-at l =
    (before : Met) → Knows l.initial.met before →
    Labelling (heads_of l.heads) (shown l.selector) before (map label_seen l.written) (map label_seen (drop l.at l.written)) (map label_view l.made.items) l.met
