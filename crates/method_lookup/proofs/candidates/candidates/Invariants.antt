use Rattle.std.proofs.Common.{◌≡◌, ◌++◌, drop, map}
use Rattle.je_core.specs.View.{program_view}
use Rattle.class_members.specs.Places.{member_of}
use Rattle.method_lookup.specs.way.Ways.{candidates_in}
use Rattle.method_lookup.proofs.candidates.candidates.Given as goal

abbrev pub invariant-loop-class : goal.invariant-loop-class
invariant-loop-class l = map member_of l.found.items ++ candidates_in (program_view l.program) l.call.own l.call.name l.call.types.now (drop l.class-index l.classes) ≡ candidates_in (program_view l.program) l.call.own l.call.name l.call.types.now l.classes
