use Rattle.std.proofs.Common.{◌≡◌, max, arith}
use Rattle.std.proofs.lemmas.Grind.{common_steps}
use Rattle.je_ast.specs.View.{group_views_of}
use Rattle.je_ast.specs.Height.{groups_height}
use Rattle.parse_statements.specs.way.Views.{group_height}
use Rattle.parse_statements.proofs.Lists.{groups_height_push, groups_push}
use Rattle.parse_statements.proofs.Steps.{groups_step}
use Rattle.parse_statements.proofs.switches.groups.Goals as goal

pub loop-preserved : goal.loop-preserved
loop-preserved g c =
    let pushed : groups_height (group_views_of c.push.new.self.items) ≡ max (groups_height (group_views_of c.loop.items.items)) (group_height c.in-Some-2.found.tree) =
    groups_height_push c.loop.items.items c.push.new.self.items c.in-Some-2.found.tree (grind (arith, common_steps)) in
    record {
      same = grind (arith, common_steps, groups_step, groups_push);
      height = grind (arith, common_steps);
      limit = grind (arith, common_steps);
    }
