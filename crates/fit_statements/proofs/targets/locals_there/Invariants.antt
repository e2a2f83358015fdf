use Rattle.std.proofs.Common.{◌≡◌, drop}
use Rattle.je_fitting.specs.way.DecidingStatements.{locals_there}
use Rattle.fit_statements.proofs.targets.locals_there.Given as goal

abbrev pub invariant-loop-local : goal.invariant-loop-local
invariant-loop-local l = locals_there l.body (drop l.local-index l.locals) ≡ locals_there l.body l.locals
