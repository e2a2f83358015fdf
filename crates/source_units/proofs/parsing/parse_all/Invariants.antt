use Rattle.std.proofs.Common.{◌+◌, ◌*◌, ◌≤◌, length, map}
use Rattle.je_ast.specs.View.{unit_view}
use Rattle.name_walk.specs.Sizes.{units_size}
use Rattle.source_units.proofs.Parsed.{AreParsed}
use Rattle.source_units.proofs.parsing.parse_all.Given as goal

abbrev pub invariant-loop-tokens : goal.invariant-loop-tokens
invariant-loop-tokens l = AreParsed l.all l.initial.names l.names l.tokens-index (map unit_view l.units.items)
    × (length l.names ≤ length l.initial.names + 1048577 * l.tokens-index)
    × (units_size (map unit_view l.units.items) ≤ 2097154 * l.tokens-index)
