use Rattle.std.proofs.Common.{◌≡◌, ◌++◌, drop, map}
use Rattle.std.specs.List.{flat_map}
use Rattle.je_core.specs.View.{method_view}
use Rattle.captured_reads.specs.Standing.{met_in_method}
use Rattle.captured_reads.specs.View.{met_view}
use Rattle.captured_reads.specs.NestingView.{program_of}
use Rattle.captured_reads.proofs.bodies.add_methods.Given as goal

abbrev pub invariant-loop-method : goal.invariant-loop-method
invariant-loop-method l = map met_view l.met.items ++ flat_map (met_in_method (program_of l.nesting) l.class) (map method_view (drop l.method-index l.methods)) ≡ map met_view l.fn.met.items ++ flat_map (met_in_method (program_of l.nesting) l.class) (map method_view l.methods)
