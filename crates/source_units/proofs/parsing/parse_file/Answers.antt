-- Other numbers for its names leave the size of a unit as it is.
use Rattle.je_ast.specs.View.{unit_view}
use Rattle.source_units.proofs.Sizes.{small_kept}
use Rattle.source_units.proofs.parsing.parse_file.Goals as goal

pub returns-clause-small : goal.returns-clause-small
returns-clause-small c =
    small_kept c.deref.result.now (unit_view c.in_ok-unit.unit) (unit_view c.renumber.new.unit) _ c.renumber.ensures c.in_ok-unit.ensures.small
