use Rattle.std.proofs.Common.{◌≡◌, drop, map}
use Rattle.je_fitting.specs.Statements.{label_of}
use Rattle.fit_statements.specs.Labels.{label_seen}
use Rattle.fit_statements.proofs.targets.label_of.Given as goal

abbrev pub invariant-loop-label : goal.invariant-loop-label
invariant-loop-label l = label_of (map label_seen (drop l.label-index l.labels)) l.name ≡ label_of (map label_seen l.labels) l.name
