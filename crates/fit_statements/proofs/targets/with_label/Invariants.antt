use Rattle.std.proofs.Common.{◌≡◌, ◌∷◌, ◌++◌, drop}
use Rattle.fit_statements.proofs.targets.with_label.Given as goal

abbrev pub invariant-loop-label : goal.invariant-loop-label
invariant-loop-label l = l.all.items ++ drop l.label-index l.labels ≡ record { name = l.fn.name; is_loop = l.is_loop } ∷ l.labels
