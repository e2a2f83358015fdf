use Rattle.std.proofs.Common.{◌≡◌, [], take, drop}
use Rattle.member_rules.specs.Modifiers.{bad_after}
use Rattle.member_rules.proofs.modifiers.bad_modifier.Given as goal

abbrev pub invariant-loop-at : goal.invariant-loop-at
invariant-loop-at l = bad_after l.declared l.place (take l.at l.modifiers) (drop l.at l.modifiers) ≡ bad_after l.declared l.place [] l.modifiers
