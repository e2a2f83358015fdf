use Rattle.std.proofs.Common.{◌≡◌, drop, map}
use Rattle.je_core.specs.View.{program_view}
use Rattle.std.specs.List.{list_all}
use Rattle.je_classes.specs.Methods.{has_result_of}
use Rattle.class_members.specs.Places.{member_of}
use Rattle.method_lookup.proofs.choice.counts.Given as goal

abbrev pub invariant-loop-other : goal.invariant-loop-other
invariant-loop-other l = list_all (has_result_of (program_view l.program) (member_of l.one)) (map member_of (drop l.other-index l.best)) ≡ list_all (has_result_of (program_view l.program) (member_of l.one)) (map member_of l.best)
