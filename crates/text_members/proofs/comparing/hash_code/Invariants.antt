use Rattle.std.proofs.Common.{◌≡◌, ◌%◌, ◌^◌, take}
use Rattle.text_members.specs.Comparing.{weighed}
use Rattle.text_members.proofs.comparing.hash_code.Given as goal

abbrev pub invariant-loop-unit : goal.invariant-loop-unit
invariant-loop-unit l = l.hash ≡ weighed (take l.unit-index l.units) % 2 ^ 32
