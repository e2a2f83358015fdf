use Rattle.std.proofs.Common.{◌≡◌, ◌≤◌, suc, ◌+◌, ◌-◌, List, Some, sym, ap, ◌∙◌, arith}
use Rattle.std.proofs.lemmas.Grind.{common_steps}
use Rattle.je_token.specs.declared.token.Token.{Token}
use Rattle.je_ast.specs.Trees.{Expression}
use Rattle.je_ast.specs.View.{view}
use Rattle.je_ast.specs.Height.{height}
use Rattle.parse_laws.specs.way.Expressions.{postfix_operator}
use Rattle.parse_operators.specs.way.Readings.{increments_at}
use Rattle.parse_expressions.proofs.SelectionTurns.{increment_turn}
use Rattle.parse_expressions.proofs.postfix.increments.Goals as goal

pub loop-preserved : goal.loop-preserved
loop-preserved c =
    let is : postfix_operator c.loop.left.rest.now ≡ Some (c.in-Some.op, c.in-Some.rest.now) = grind (arith, common_steps) in
    let low : height (view c.loop.left.tree) ≤ c.args.setting.now.below = grind (arith, common_steps) in
    let turn = increment_turn c.args.setting.now (suc c.args.setting.now.below) c.loop.counter (view c.loop.left.tree) c.loop.left.rest.now c.in-Some.rest.now c.in-Some.op (omega arith) low is in
    let made = ap (λ (y : Expression × List Token). increments_at c.args.setting.now (suc c.args.setting.now.below - (c.loop.counter + 1)) y.0 y.1) c.in_ok-left.ensures.value in
    record {
      same = made ∙ (sym turn ∙ c.loop.invariant.same);
      height = c.in_ok-left.ensures.height.0;
      limit = grind (arith, common_steps);
    }
