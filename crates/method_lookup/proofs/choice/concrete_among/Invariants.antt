use Rattle.std.proofs.Common.{◌≡◌, ◌≤◌, length, drop, map, filter}
use Rattle.je_core.specs.View.{program_view}
use Rattle.je_classes.specs.Members.{found_in}
use Rattle.je_classes.specs.Methods.{is_concrete}
use Rattle.class_members.specs.Places.{member_of}
use Rattle.member_lookup.specs.Founds.{found_seen}
use Rattle.method_lookup.proofs.choice.concrete_among.Given as goal

abbrev pub invariant-loop-left : goal.invariant-loop-left
invariant-loop-left l = (l.left ≤ length l.best) × (found_seen l.found ≡ found_in (filter (is_concrete (program_view l.program)) (map member_of (drop l.left l.best))))

abbrev pub decreases-loop-left : goal.decreases-loop-left
decreases-loop-left l = l.left
