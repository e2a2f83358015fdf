use Rattle.std.proofs.Common.{◌≡◌, drop}
use Rattle.je_core.specs.View.{program_view}
use Rattle.reported_exceptions.specs.Handled.{may_come}
use Rattle.reported_exceptions.proofs.handled.may_come.Given as goal

abbrev pub invariant-loop-one : goal.invariant-loop-one
invariant-loop-one l = may_come (program_view l.program) (drop l.one-index l.thrown) l.class ≡ may_come (program_view l.program) l.thrown l.class
