use Rattle.std.proofs.Common.{◌≡◌, drop}
use Rattle.je_core.specs.View.{program_view}
use Rattle.reported_exceptions.specs.Throws.{each_thrown, out_behind}
use Rattle.reported_exceptions.proofs.throws.throw_each.Given as goal

abbrev pub invariant-loop-class : goal.invariant-loop-class
invariant-loop-class l = out_behind (program_view l.program) l.thrown.items (each_thrown (program_view l.program) (drop l.class-index l.classes) l.at) ≡ out_behind (program_view l.program) l.fn.thrown.items (each_thrown (program_view l.program) l.classes l.at)
