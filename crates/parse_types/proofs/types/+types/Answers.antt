use Rattle.std.proofs.Common.{◌≡◌, max, arith}
use Rattle.std.proofs.lemmas.Grind.{common_steps}
use Rattle.je_ast.specs.Types.{type_view, type_views_of, type_height, types_height}
use Rattle.parse_types.proofs.Steps.{views_height_push}
use Rattle.parse_types.proofs.types.+types.Goals as goal

pub type_arguments-returns-in-loop-clause-height : goal.type_arguments-returns-in-loop-clause-height
type_arguments-returns-in-loop-clause-height t c =
    let pushed : types_height (type_views_of c.push.new.self.items) ≡ max (types_height (type_views_of c.loop.list.items)) (type_height (type_view c.in-Some.found.tree)) =
    views_height_push c.loop.list.items c.push.new.self.items c.in-Some.found.tree (grind (arith, common_steps)) in
    (grind (arith, common_steps), grind (arith, common_steps))
