use Rattle.std.proofs.Common.{◌≡◌, ◌++◌, drop, map}
use Rattle.reported_exceptions.specs.Programs.{class_of}
use Rattle.reported_exceptions.proofs.programs.classes_of.Given as goal

abbrev pub invariant-loop-one : goal.invariant-loop-one
invariant-loop-one l = l.classes.items ++ map class_of (drop l.one-index l.thrown) ≡ map class_of l.thrown
