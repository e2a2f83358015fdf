use Rattle.std.proofs.Common.{◌≡◌, map, take}
use Rattle.text_members.specs.Changes.{exchanged}
use Rattle.text_members.proofs.changes.replaced.Given as goal

abbrev pub invariant-loop-unit : goal.invariant-loop-unit
invariant-loop-unit l = l.made ≡ map (exchanged l.old l.new) (take l.unit-index l.units)
