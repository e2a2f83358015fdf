use Rattle.std.proofs.Common.{◌≡◌, ◌≤◌, drop}
use Rattle.text_numbers.specs.Reading.{number_behind}
use Rattle.text_numbers.specs.way.Growing.{at_most}
use Rattle.text_numbers.proofs.reading.natural.Given as goal

abbrev pub invariant-loop-unit : goal.invariant-loop-unit
invariant-loop-unit l =
    (l.number ≤ l.most)
    × (at_most l.most (number_behind l.number (drop l.unit-index l.units)) ≡ at_most l.most (number_behind 0 l.units))
