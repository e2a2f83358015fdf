use Rattle.std.proofs.Common.{◌≡◌, drop}
use Rattle.je_core.specs.Core.{cores}
use Rattle.je_core.specs.View.{views}
use Rattle.variable_sets.specs.SetView.{set_view}
use Rattle.assigned_expressions.specs.Untouched.{all_untouched}
use Rattle.assigned_expressions.proofs.untouched.+expressions.Given as goal

abbrev pub invariant-without_all-loop-part : goal.invariant-without_all-loop-part
invariant-without_all-loop-part l = all_untouched l.home (set_view l.rest) (cores (views (drop l.part-index l.parts))) ≡ all_untouched l.home (set_view l.fn.set) (cores (views l.parts))
