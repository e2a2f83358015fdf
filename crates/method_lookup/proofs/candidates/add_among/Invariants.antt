use Rattle.std.proofs.Common.{◌≡◌, ◌++◌, drop, map, filter}
use Rattle.je_core.specs.View.{method_view, program_view}
use Rattle.je_classes.specs.Methods.{named_from}
use Rattle.class_members.specs.Places.{member_of}
use Rattle.method_lookup.specs.way.Ways.{is_candidate}
use Rattle.method_lookup.proofs.candidates.add_among.Given as goal

abbrev pub invariant-loop-at : goal.invariant-loop-at
invariant-loop-at l = map member_of l.found.items ++ filter (is_candidate (program_view l.program) l.call.own l.call.name l.call.types.now) (named_from l.class l.at (map method_view (drop l.at l.methods)) l.call.name) ≡ map member_of l.fn.found.items ++ filter (is_candidate (program_view l.program) l.call.own l.call.name l.call.types.now) (named_from l.class 0 (map method_view l.methods) l.call.name)
