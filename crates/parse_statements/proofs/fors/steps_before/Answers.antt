use Rattle.std.proofs.Common.{◌≡◌, max, arith}
use Rattle.std.proofs.lemmas.Grind.{common_steps}
use Rattle.je_ast.specs.View.{view, views_of}
use Rattle.je_ast.specs.Height.{height, heights}
use Rattle.parse_statements.proofs.Lists.{expressions_height_push, expressions_push}
use Rattle.parse_statements.proofs.Steps.{steps_step}
use Rattle.parse_statements.proofs.fors.steps_before.Goals as goal

pub returns-in-loop-clause-height : goal.returns-in-loop-clause-height
returns-in-loop-clause-height g c =
    let pushed : heights (views_of c.push.new.self.items) ≡ max (heights (views_of c.loop.list.items)) (height (view c.in-Some-2.step.tree)) =
    expressions_height_push c.loop.list.items c.push.new.self.items c.in-Some-2.step.tree (grind (arith, common_steps)) in
    (grind (arith, common_steps), grind (arith, common_steps))

pub loop-preserved : goal.loop-preserved
loop-preserved g c =
    let pushed : heights (views_of c.push.new.self.items) ≡ max (heights (views_of c.loop.list.items)) (height (view c.in-Some-2.step.tree)) =
    expressions_height_push c.loop.list.items c.push.new.self.items c.in-Some-2.step.tree (grind (arith, common_steps)) in
    record {
      same = grind (arith, common_steps, steps_step, expressions_push);
      height = grind (arith, common_steps);
      limit = grind (arith, common_steps);
    }
