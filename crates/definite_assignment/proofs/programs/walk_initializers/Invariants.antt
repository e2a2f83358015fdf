use Rattle.std.proofs.Common.{◌≡◌, drop, map}
use Rattle.je_core.specs.View.{initializer_view}
use Rattle.captured_reads.specs.NestingView.{program_of}
use Rattle.flow_base.specs.way.Kept.{first_of}
use Rattle.variable_sets.specs.SetView.{set_view}
use Rattle.definite_assignment.specs.Programs.{initializers_past, initializers_faults}
use Rattle.definite_assignment.proofs.programs.walk_initializers.Given as goal

abbrev pub invariant-loop-initializer : goal.invariant-loop-initializer
invariant-loop-initializer l = record {
  past : initializers_past l.rule (program_of l.nesting) l.id l.is_static (set_view l.start) (set_view l.past) (map initializer_view (drop l.initializer-index l.initializers)) ≡ initializers_past l.rule (program_of l.nesting) l.id l.is_static (set_view l.start) (set_view l.fn.before) (map initializer_view l.initializers);
  faults : first_of l.found (initializers_faults l.rule (program_of l.nesting) l.id l.is_static (set_view l.start) (set_view l.past) (map initializer_view (drop l.initializer-index l.initializers))) ≡ first_of l.fn.found (initializers_faults l.rule (program_of l.nesting) l.id l.is_static (set_view l.start) (set_view l.fn.before) (map initializer_view l.initializers));
}
