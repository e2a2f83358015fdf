use Rattle.std.proofs.Common.{◌≡◌, drop}
use Rattle.je_core.specs.View.{program_view}
use Rattle.je_fitting.specs.way.Deciding.{uses_there}
use Rattle.fit_parts.proofs.parts.uses_there.Given as goal

abbrev pub invariant-loop-one : goal.invariant-loop-one
invariant-loop-one l = uses_there (program_view l.program) (drop l.one-index l.uses) ≡ uses_there (program_view l.program) l.uses
