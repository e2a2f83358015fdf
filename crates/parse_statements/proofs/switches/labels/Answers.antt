use Rattle.std.proofs.Common.{◌≡◌, max, arith}
use Rattle.std.proofs.lemmas.Grind.{common_steps}
use Rattle.je_ast.specs.View.{label_views_of}
use Rattle.je_ast.specs.Height.{labels_height}
use Rattle.parse_statements.specs.way.Views.{label_height}
use Rattle.parse_statements.proofs.Lists.{labels_height_push, labels_push}
use Rattle.parse_statements.proofs.Steps.{labels_step}
use Rattle.parse_statements.proofs.switches.labels.Goals as goal

pub loop-preserved : goal.loop-preserved
loop-preserved g c =
    let pushed : labels_height (label_views_of c.push.new.self.items) ≡ max (labels_height (label_views_of c.loop.list.items)) (label_height c.in-Some.found.tree) =
    labels_height_push c.loop.list.items c.push.new.self.items c.in-Some.found.tree (grind (arith, common_steps)) in
    record {
      same = grind (arith, common_steps, labels_step, labels_push);
      height = grind (arith, common_steps);
      limit = grind (arith, common_steps);
    }

pub returns-then-not-begins_label-clause-height : goal.returns-then-not-begins_label-clause-height
returns-then-not-begins_label-clause-height g c =
    let pushed : labels_height (label_views_of c.push.new.self.items) ≡ max (labels_height (label_views_of c.loop.list.items)) (label_height c.in-Some.found.tree) =
    labels_height_push c.loop.list.items c.push.new.self.items c.in-Some.found.tree (grind (arith, common_steps)) in
    (grind (arith, common_steps), grind (arith, common_steps))
