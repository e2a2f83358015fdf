use Rattle.std.proofs.Common.{◌≡◌, drop, map}
use Rattle.std.specs.List.{list_all}
use Rattle.je_core.specs.View.{initializer_view, program_view}
use Rattle.je_fitting.specs.way.DecidingMembers.{is_initializer_fit}
use Rattle.fit_classes.proofs.class.initializers_fit.Given as goal

abbrev pub invariant-loop-initializer : goal.invariant-loop-initializer
invariant-loop-initializer l = list_all (is_initializer_fit (program_view l.program) l.id) (map initializer_view (drop l.initializer-index l.initializers)) ≡ list_all (is_initializer_fit (program_view l.program) l.id) (map initializer_view l.initializers)
