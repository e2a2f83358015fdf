use Rattle.std.proofs.Common.{◌≡◌, drop, map}
use Rattle.std.specs.List.{list_all}
use Rattle.je_core.specs.View.{initializer_view, program_view}
use Rattle.plain_programs.specs.way.Deciding.{is_plain_initializer}
use Rattle.plain_programs.proofs.classes.initializers_are_plain.Given as goal

abbrev pub invariant-loop-initializer : goal.invariant-loop-initializer
invariant-loop-initializer l = list_all (is_plain_initializer (program_view l.program)) (map initializer_view (drop l.initializer-index l.initializers)) ≡ list_all (is_plain_initializer (program_view l.program)) (map initializer_view l.initializers)
