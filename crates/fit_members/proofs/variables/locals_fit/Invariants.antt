use Rattle.std.proofs.Common.{◌≡◌, drop}
use Rattle.je_core.specs.View.{program_view}
use Rattle.je_fitting.specs.Members.{local_types}
use Rattle.je_fitting.specs.way.DecidingMembers.{are_variables}
use Rattle.fit_members.proofs.variables.locals_fit.Given as goal

abbrev pub invariant-loop-local : goal.invariant-loop-local
invariant-loop-local l = are_variables (program_view l.program) (local_types (drop l.local-index l.locals)) ≡ are_variables (program_view l.program) (local_types l.locals)
