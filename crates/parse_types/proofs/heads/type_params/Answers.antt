use Rattle.std.proofs.Common.{◌≡◌, max, map, arith}
use Rattle.std.proofs.lemmas.Grind.{common_steps}
use Rattle.je_ast.specs.Types.{parameter_view}
use Rattle.je_ast.specs.Height.{parameters_height, type_height_if}
use Rattle.parse_types.proofs.Steps.{parameter_views_height_push}
use Rattle.parse_types.proofs.heads.type_params.Goals as goal

pub returns-in-loop-clause-height : goal.returns-in-loop-clause-height
returns-in-loop-clause-height c =
    let pushed : parameters_height (map parameter_view c.push.new.self.items) ≡ max (parameters_height (map parameter_view c.loop.list.items)) (type_height_if (parameter_view c.in-Some-2.param).bound) =
    parameter_views_height_push c.loop.list.items c.push.new.self.items c.in-Some-2.param (grind (arith, common_steps)) in
    (grind (arith, common_steps), grind (arith, common_steps))
