use Rattle.std.proofs.Common.{◌≡◌, ◌++◌, drop, map}
use Rattle.std.specs.List.{flat_map}
use Rattle.je_core.specs.View.{initializer_view}
use Rattle.captured_reads.specs.Standing.{met_in_initializer}
use Rattle.captured_reads.specs.View.{met_view}
use Rattle.captured_reads.specs.NestingView.{program_of}
use Rattle.captured_reads.proofs.bodies.add_initializers.Given as goal

abbrev pub invariant-loop-initializer : goal.invariant-loop-initializer
invariant-loop-initializer l = map met_view l.met.items ++ flat_map (met_in_initializer (program_of l.nesting) l.class) (map initializer_view (drop l.initializer-index l.initializers)) ≡ map met_view l.fn.met.items ++ flat_map (met_in_initializer (program_of l.nesting) l.class) (map initializer_view l.initializers)
