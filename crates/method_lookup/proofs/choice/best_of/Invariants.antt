use Rattle.std.proofs.Common.{◌≡◌, ◌++◌, drop, map, filter}
use Rattle.je_core.specs.View.{program_view}
use Rattle.je_classes.specs.Methods.{is_best}
use Rattle.class_members.specs.Places.{member_of}
use Rattle.method_lookup.proofs.choice.best_of.Given as goal

abbrev pub invariant-loop-one : goal.invariant-loop-one
invariant-loop-one l = map member_of l.best.items ++ filter (is_best (program_view l.program) (map member_of l.candidates)) (map member_of (drop l.one-index l.candidates)) ≡ filter (is_best (program_view l.program) (map member_of l.candidates)) (map member_of l.candidates)
