use Rattle.std.proofs.Common.{◌≡◌, drop}
use Rattle.je_core.specs.View.{program_view}
use Rattle.reported_exceptions.specs.Handled.{is_below_one}
use Rattle.reported_exceptions.proofs.handled.is_below_one.Given as goal

abbrev pub invariant-loop-one : goal.invariant-loop-one
invariant-loop-one l = is_below_one (program_view l.program) (drop l.one-index l.classes) l.class ≡ is_below_one (program_view l.program) l.classes l.class
