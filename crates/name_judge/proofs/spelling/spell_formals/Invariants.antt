use Rattle.std.proofs.Common.{◌≡◌, ◌++◌, drop, map}
use Rattle.je_ast.specs.Types.{formal_view}
use Rattle.name_judge.specs.Reading.{parameters_in}
use Rattle.name_judge.specs.Spelled.{all_spelled}
use Rattle.name_judge.proofs.spelling.spell_formals.Given as goal

abbrev pub invariant-loop-formal : goal.invariant-loop-formal
invariant-loop-formal l = l.list.items ++ all_spelled (parameters_in l.around (map formal_view (drop l.formal-index l.formals))) ≡ l.initial.list.items ++ all_spelled (parameters_in l.around (map formal_view l.formals))
