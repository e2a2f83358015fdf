use Rattle.std.proofs.Common.{◌≡◌, max, arith}
use Rattle.std.proofs.lemmas.Grind.{common_steps}
use Rattle.je_ast.specs.View.{variable_views_of}
use Rattle.je_ast.specs.Height.{variables_height}
use Rattle.parse_statements.specs.way.Views.{variable_height}
use Rattle.parse_statements.proofs.Lists.{variables_height_push, variables_push}
use Rattle.parse_statements.proofs.Steps.{variables_step}
use Rattle.parse_statements.proofs.declarators.variables.Goals as goal

pub returns-in_default-behind-clause-height : goal.returns-in_default-behind-clause-height
returns-in_default-behind-clause-height g c =
    let pushed : variables_height (variable_views_of c.push.new.self.items) ≡ max (variables_height (variable_views_of c.loop.list.items)) (variable_height c.in-Some.found.tree) =
    variables_height_push c.loop.list.items c.push.new.self.items c.in-Some.found.tree (grind (arith, common_steps)) in
    (grind (arith, common_steps), grind (arith, common_steps))

pub loop-preserved : goal.loop-preserved
loop-preserved g c =
    let pushed : variables_height (variable_views_of c.push.new.self.items) ≡ max (variables_height (variable_views_of c.loop.list.items)) (variable_height c.in-Some.found.tree) =
    variables_height_push c.loop.list.items c.push.new.self.items c.in-Some.found.tree (grind (arith, common_steps)) in
    record {
      same = grind (arith, common_steps, variables_step, variables_push);
      height = grind (arith, common_steps);
      limit = grind (arith, common_steps);
    }
