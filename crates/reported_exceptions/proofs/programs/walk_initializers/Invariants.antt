use Rattle.std.proofs.Common.{◌≡◌, drop, map}
use Rattle.je_core.specs.View.{initializer_view, program_view}
use Rattle.flow_base.specs.FaultSets.{of_each}
use Rattle.flow_base.specs.way.Kept.{first_of}
use Rattle.reported_exceptions.specs.Programs.{initializers_throw, initializer_faults}
use Rattle.reported_exceptions.specs.Throws.{out_behind}
use Rattle.reported_exceptions.specs.View.{rows}
use Rattle.reported_exceptions.proofs.programs.walk_initializers.Given as goal

abbrev pub invariant-loop-initializer : goal.invariant-loop-initializer
invariant-loop-initializer l = record {
  throws : out_behind (program_view l.program) l.thrown.items (initializers_throw (program_view l.program) (rows l.makings) l.is_static (map initializer_view (drop l.initializer-index l.initializers))) ≡ out_behind (program_view l.program) l.fn.thrown.items (initializers_throw (program_view l.program) (rows l.makings) l.is_static (map initializer_view l.initializers));
  faults : first_of l.found (of_each (initializer_faults (program_view l.program) (rows l.makings) l.is_static) (map initializer_view (drop l.initializer-index l.initializers))) ≡ first_of l.fn.found (of_each (initializer_faults (program_view l.program) (rows l.makings) l.is_static) (map initializer_view l.initializers));
}
