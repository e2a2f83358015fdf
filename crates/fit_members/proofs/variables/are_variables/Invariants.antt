use Rattle.std.proofs.Common.{◌≡◌, drop}
use Rattle.je_core.specs.View.{program_view}
use Rattle.je_fitting.specs.way.DecidingMembers.{are_variables}
use Rattle.fit_members.proofs.variables.are_variables.Given as goal

abbrev pub invariant-loop-ty : goal.invariant-loop-ty
invariant-loop-ty l = are_variables (program_view l.program) (drop l.ty-index l.types) ≡ are_variables (program_view l.program) l.types
