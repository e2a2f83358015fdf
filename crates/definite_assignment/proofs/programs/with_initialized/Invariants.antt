use Rattle.std.proofs.Common.{◌≡◌, drop, map}
use Rattle.je_core.specs.View.{initializer_view}
use Rattle.variable_sets.specs.SetView.{set_view}
use Rattle.definite_assignment.specs.Programs.{with_initialized}
use Rattle.definite_assignment.proofs.programs.with_initialized.Given as goal

abbrev pub invariant-loop-initializer : goal.invariant-loop-initializer
invariant-loop-initializer l = with_initialized l.rule l.id (map initializer_view (drop l.initializer-index l.initializers)) (set_view l.all) ≡ with_initialized l.rule l.id (map initializer_view l.initializers) (set_view l.fn.set)
