use Rattle.std.proofs.Common.{◌≡◌, ◌++◌, drop, map}
use Rattle.je_core.specs.Core.{core_catches}
use Rattle.je_core.specs.View.{catch_view, program_view}
use Rattle.reported_exceptions.specs.Throws.{untaken}
use Rattle.reported_exceptions.proofs.throws.throw_untaken.Given as goal

abbrev pub invariant-loop-one : goal.invariant-loop-one
invariant-loop-one l = l.thrown.items ++ untaken (program_view l.program) (core_catches (map catch_view l.catches)) (drop l.one-index l.tried) ≡ l.fn.thrown.items ++ untaken (program_view l.program) (core_catches (map catch_view l.catches)) l.tried
