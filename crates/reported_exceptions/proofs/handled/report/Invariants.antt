use Rattle.std.proofs.Common.{◌≡◌, drop}
use Rattle.je_core.specs.View.{program_view}
use Rattle.flow_base.specs.way.Kept.{first_of}
use Rattle.reported_exceptions.specs.Programs.{all_unreported}
use Rattle.reported_exceptions.proofs.handled.report.Given as goal

abbrev pub invariant-loop-one : goal.invariant-loop-one
invariant-loop-one l = first_of l.found (all_unreported (program_view l.program) l.declared (drop l.one-index l.thrown)) ≡ first_of l.fn.found (all_unreported (program_view l.program) l.declared l.thrown)
