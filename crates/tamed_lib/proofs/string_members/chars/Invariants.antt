use Rattle.std.proofs.Common.{◌≡◌, map, take}
use Rattle.je_core.specs.declared.value.Value.TheVariants.{Char}
use Rattle.tamed_lib.proofs.string_members.chars.Given as goal

abbrev pub invariant-loop-unit : goal.invariant-loop-unit
invariant-loop-unit l = l.slots ≡ map Char (take l.unit-index l.units)
