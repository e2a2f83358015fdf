use Rattle.std.proofs.Common.{◌≡◌, drop, map}
use Rattle.je_core.specs.View.{method_view, program_view}
use Rattle.reported_exceptions.specs.Programs.{constructors_throw}
use Rattle.reported_exceptions.specs.Throws.{out_behind}
use Rattle.reported_exceptions.specs.View.{rows}
use Rattle.reported_exceptions.proofs.programs.walk_constructors.Given as goal

abbrev pub invariant-loop-method : goal.invariant-loop-method
invariant-loop-method l = out_behind (program_view l.program) l.thrown.items (constructors_throw (program_view l.program) (rows l.makings) (map method_view (drop l.method-index l.methods))) ≡ out_behind (program_view l.program) l.fn.thrown.items (constructors_throw (program_view l.program) (rows l.makings) (map method_view l.methods))
