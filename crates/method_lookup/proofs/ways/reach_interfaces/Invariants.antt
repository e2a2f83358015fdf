use Rattle.std.proofs.Common.{◌≡◌, drop, filter, length}
use Rattle.je_core.specs.View.{program_view}
use Rattle.je_classes.specs.way.Reaching.{with_all}
use Rattle.method_lookup.specs.way.Ways.{hands_on}
use Rattle.method_lookup.proofs.ways.reach_interfaces.Given as goal

abbrev pub invariant-loop-interface : goal.invariant-loop-interface
invariant-loop-interface l = with_all (length (program_view l.program).classes) l.reached.items (filter (hands_on (program_view l.program) l.is_of_object l.class) (drop l.interface-index l.interfaces)) ≡ with_all (length (program_view l.program).classes) l.fn.reached.items (filter (hands_on (program_view l.program) l.is_of_object l.class) l.interfaces)
