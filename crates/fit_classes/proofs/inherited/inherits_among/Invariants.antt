use Rattle.std.proofs.Common.{◌≡◌, drop, map}
use Rattle.je_core.specs.View.{method_view, program_view}
use Rattle.fit_members.specs.way.Each.{tested_from}
use Rattle.fit_classes.specs.way.Inheriting.{inherits}
use Rattle.fit_classes.proofs.inherited.inherits_among.Given as goal

abbrev pub invariant-loop-at : goal.invariant-loop-at
invariant-loop-at l = tested_from (inherits (program_view l.program) l.id l.class) l.at (map method_view (drop l.at l.methods)) ≡ tested_from (inherits (program_view l.program) l.id l.class) 0 (map method_view l.methods)
