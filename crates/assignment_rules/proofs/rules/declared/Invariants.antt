use Rattle.std.proofs.Common.{◌≡◌, drop}
use Rattle.variable_sets.specs.SetView.{set_view}
use Rattle.assignment_rules.specs.Rules.{declared}
use Rattle.assignment_rules.proofs.rules.declared.Given as goal

abbrev pub invariant-loop-local : goal.invariant-loop-local
invariant-loop-local l = declared l.rule (drop l.local-index l.locals) (set_view l.rest) ≡ declared l.rule l.locals (set_view l.fn.set)
