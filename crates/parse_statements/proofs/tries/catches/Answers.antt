use Rattle.std.proofs.Common.{◌≡◌, max, arith}
use Rattle.std.proofs.lemmas.Grind.{common_steps}
use Rattle.je_ast.specs.View.{catch_views_of}
use Rattle.je_ast.specs.Height.{catches_height}
use Rattle.parse_statements.specs.way.Views.{catch_height}
use Rattle.parse_statements.proofs.Lists.{catches_height_push, catches_push}
use Rattle.parse_statements.proofs.Steps.{catches_step}
use Rattle.parse_statements.proofs.tries.catches.Goals as goal

pub loop-preserved : goal.loop-preserved
loop-preserved g c =
    let pushed : catches_height (catch_views_of c.push.new.self.items) ≡ max (catches_height (catch_views_of c.loop.items.items)) (catch_height c.in-Some.found.tree) =
    catches_height_push c.loop.items.items c.push.new.self.items c.in-Some.found.tree (grind (arith, common_steps)) in
    record {
      same = grind (arith, common_steps, catches_step, catches_push);
      height = grind (arith, common_steps);
      limit = grind (arith, common_steps);
    }
