use Rattle.std.proofs.Common.{◌≡◌, drop}
use Rattle.je_core.specs.View.{program_view}
use Rattle.fit_members.specs.way.Each.{each_of}
use Rattle.fit_classes.specs.way.Inheriting.{inherits}
use Rattle.fit_classes.proofs.inherited.inherits_from_all.Given as goal

abbrev pub invariant-loop-class : goal.invariant-loop-class
invariant-loop-class l = each_of (program_view l.program) (inherits (program_view l.program) l.id) (drop l.class-index l.above) ≡ each_of (program_view l.program) (inherits (program_view l.program) l.id) l.above
