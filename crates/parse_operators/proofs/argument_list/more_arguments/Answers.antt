use Rattle.std.proofs.Common.{◌≡◌, ◌<◌, ◌++◌, ◌∷◌, [], Some, max, map, length, sym, ◌∙◌, arith}
use Rattle.std.proofs.lemmas.Grind.{common_steps}
use Rattle.je_token.specs.declared.symbol.Symbol.TheVariants as symbol
use Rattle.je_ast.specs.View.{view, views_of}
use Rattle.je_ast.specs.Height.{height, heights}
use Rattle.parse_laws.specs.way.Tokens.{behind}
use Rattle.parse_below.specs.way.Readings.{below_at, body_at}
use Rattle.parse_operators.proofs.Steps.{heights_push, views_push, arguments_step}
use Rattle.parse_operators.proofs.argument_list.more_arguments.Goals as goal

pub returns-in-loop-clause-height : goal.returns-in-loop-clause-height
returns-in-loop-clause-height g c =
    let read = rw c.in-Some.is at (c.requires.reads _ _ c.in_ok-found.ensures) in
    let right = read.1 in
    let pushed : heights (views_of c.push.new.self.items) ≡ max (heights (views_of c.loop.items.items)) (height (view c.in-Some.found.tree)) = heights_push c.loop.items.items c.push.new.self.items c.in-Some.found.tree (grind (arith, common_steps)) in
    let joined : c.max-height.result ≡ max c.loop.height c.in-Some.found.height = grind (arith, common_steps) in
    let was = c.loop.invariant.height in
    let few = c.loop.invariant.limit in
    (omega arith, omega arith)

pub loop-preserved : goal.loop-preserved
loop-preserved g c =
    let read = rw c.in-Some.is at (c.requires.reads _ _ c.in_ok-found.ensures) in
    let right = read.1 in
    let items : c.push.new.self.items ≡ c.loop.items.items ++ c.in-Some.found.tree ∷ [] = grind (arith, common_steps) in
    let pushed : heights (views_of c.push.new.self.items) ≡ max (heights (views_of c.loop.items.items)) (height (view c.in-Some.found.tree)) = heights_push c.loop.items.items c.push.new.self.items c.in-Some.found.tree items in
    let joined : c.max-height.result ≡ max c.loop.height c.in-Some.found.height = grind (arith, common_steps) in
    let was = c.loop.invariant.height in
    let few = c.loop.invariant.limit in
    let less : c.loop.counter < length c.args.tokens.now = omega arith in
    let turn = arguments_step c.args.setting.now.texts.now c.args.setting.now.below (below_at c.args.setting.now) (body_at c.args.setting.now) (length c.args.tokens.now) c.loop.counter (map view c.loop.items.items) c.loop.next.now less in
    let comma : behind symbol.Comma c.in-Some.found.rest.now ≡ Some c.in-Some-behind.behind_comma.now = grind (arith, common_steps) in
    let turned = rw (← read.0, comma) at turn in
    let views = views_push c.loop.items.items c.in-Some.found.tree in
    record {
      same = rw (items, views) (sym turned ∙ c.loop.invariant.same);
      height = omega arith;
      limit = omega arith;
    }
