use Rattle.std.proofs.Common.{◌≡◌, take}
use Rattle.name_sites.specs.Library.{implicit_numbers}
use Rattle.name_sites.proofs.library.implicit_classes.Given as goal

abbrev pub invariant-loop-at : goal.invariant-loop-at
invariant-loop-at l = l.classes.items ≡ implicit_numbers (take l.at l.names)
