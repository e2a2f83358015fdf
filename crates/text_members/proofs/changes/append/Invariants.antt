use Rattle.std.proofs.Common.{◌≡◌, ◌++◌, take}
use Rattle.text_members.proofs.changes.append.Given as goal

abbrev pub invariant-loop-unit : goal.invariant-loop-unit
invariant-loop-unit l = l.units ≡ l.initial.units ++ take l.unit-index l.text
