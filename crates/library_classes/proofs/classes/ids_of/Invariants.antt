use Rattle.std.proofs.Common.{◌≡◌, ◌++◌, map, drop}
use Rattle.library_classes.specs.Library.{class_above}
use Rattle.library_classes.proofs.classes.ids_of.Given as goal

abbrev pub invariant-loop-one : goal.invariant-loop-one
invariant-loop-one l = l.ids.items ++ map class_above (drop l.one-index l.supers) ≡ map class_above l.supers
