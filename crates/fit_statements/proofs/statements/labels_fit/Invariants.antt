use Rattle.std.proofs.Common.{◌≡◌, drop, map}
use Rattle.je_core.specs.View.{label_view, program_view}
use Rattle.je_fitting.specs.way.DecidingStatements.{labels_fit}
use Rattle.fit_statements.proofs.statements.labels_fit.Given as goal

abbrev pub invariant-loop-label : goal.invariant-loop-label
invariant-loop-label l = labels_fit (program_view l.program) (map label_view (drop l.label-index l.labels)) ≡ labels_fit (program_view l.program) (map label_view l.labels)
