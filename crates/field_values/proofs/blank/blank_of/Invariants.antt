use Rattle.std.proofs.Common.{◌≡◌, map, take}
use Rattle.field_values.specs.Values.{value_seen}
use Rattle.field_values.specs.way.Blank.{has_none}
use Rattle.field_values.proofs.blank.blank_of.Given as goal

abbrev pub invariant-loop-value : goal.invariant-loop-value
invariant-loop-value l = l.blank.items ≡ map has_none (map value_seen (take l.value-index l.values))
