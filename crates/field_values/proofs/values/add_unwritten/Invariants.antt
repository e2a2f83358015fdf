use Rattle.std.proofs.Common.{◌≡◌, ◌++◌, map, replicate}
use Rattle.class_typing.specs.ConstantFields.{unwritten}
use Rattle.field_values.specs.Values.{value_seen}
use Rattle.field_values.proofs.values.add_unwritten.Given as goal

abbrev pub invariant-loop : goal.invariant-loop
invariant-loop l = map value_seen l.values.items ≡ map value_seen l.initial.values.items ++ replicate l.counter unwritten
