use Rattle.std.proofs.Common.{◌≡◌, drop}
use Rattle.member_rules.specs.Modifiers.{clashes}
use Rattle.member_rules.proofs.modifiers.clashes.Given as goal

abbrev pub invariant-loop-at : goal.invariant-loop-at
invariant-loop-at l = clashes l.declared (drop l.at l.earlier) l.kind ≡ clashes l.declared l.earlier l.kind
