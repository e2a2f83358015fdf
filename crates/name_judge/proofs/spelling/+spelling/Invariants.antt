use Rattle.std.proofs.Common.{◌≡◌, ◌++◌, drop}
use Rattle.je_ast.specs.Types.{type_views_of}
use Rattle.name_judge.specs.Reading.{types_in}
use Rattle.name_judge.specs.Spelled.{all_spelled}
use Rattle.name_judge.proofs.spelling.+spelling.Given as goal

abbrev pub invariant-spell_types-loop-ty : goal.invariant-spell_types-loop-ty
invariant-spell_types-loop-ty l = l.list.items ++ all_spelled (types_in l.around (type_views_of (drop l.ty-index l.types))) ≡ l.initial.list.items ++ all_spelled (types_in l.around (type_views_of l.types))
