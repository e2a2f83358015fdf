use Rattle.std.proofs.Common.{◌≡◌, map, take}
use Rattle.field_values.specs.way.Blank.{flags, flags_due}
use Rattle.field_values.proofs.blank.blank_fields.Given as goal

abbrev pub invariant-loop-of_class : goal.invariant-loop-of_class
invariant-loop-of_class l = map flags l.all.items ≡ map flags_due (take l.of_class-index l.values)
