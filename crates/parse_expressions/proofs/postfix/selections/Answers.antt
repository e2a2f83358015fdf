use Rattle.std.proofs.Common.{◌≡◌, ◌≤◌, suc, ◌+◌, ◌-◌, List, false, Some, None, sym, ap, ◌∙◌, arith}
use Rattle.std.proofs.lemmas.Grind.{common_steps}
use Rattle.je_token.specs.declared.token.Token.{Token}
use Rattle.je_grammar.specs.Context.{is_bare_creation}
use Rattle.je_ast.specs.Trees.{Expression}
use Rattle.je_ast.specs.View.{view}
use Rattle.je_ast.specs.Height.{height}
use Rattle.parse_operators.specs.way.Readings.{selections_at, selected_at, length_at}
use Rattle.parse_expressions.proofs.SelectionTurns.{member_turn, index_turn}
use Rattle.parse_expressions.proofs.postfix.selections.Goals as goal

pub loop-preserved-in-Some : goal.loop-preserved-in-Some
loop-preserved-in-Some g c =
    let is : selected_at c.loop.left.rest.now ≡ Some (c.in-Some.member, c.in-Some.rest.now) = grind (arith, common_steps) in
    let low : height (view c.loop.left.tree) ≤ c.args.setting.now.below = grind (arith, common_steps) in
    let turn = member_turn c.args.setting.now (suc c.args.setting.now.below) c.loop.counter (view c.loop.left.tree) c.loop.left.rest.now c.in-Some.rest.now c.in-Some.member (omega arith) low is in
    let made = ap (λ (y : Expression × List Token). selections_at c.args.setting.now (suc c.args.setting.now.below - (c.loop.counter + 1)) y.0 y.1) c.in_ok-left.ensures.value in
    record {
      same = made ∙ (sym turn ∙ c.loop.invariant.same);
      height = c.in_ok-left.ensures.height.0;
      limit = c.in_ok-left.ensures.height.1;
    }

pub loop-preserved : goal.loop-preserved
loop-preserved g c =
    let none : selected_at c.loop.left.rest.now ≡ None = grind (arith, common_steps) in
    let full : is_bare_creation (view c.loop.left.tree) ≡ false = grind (arith, common_steps) in
    let inside : length_at c.args.setting.now c.loop.left.rest.now ≡ Some (view c.in-Some-2.inside.tree, c.in-Some-2.inside.close, c.in-Some-2.inside.rest.now) = grind (arith, common_steps) in
    let low : height (view c.loop.left.tree) ≤ c.args.setting.now.below = grind (arith, common_steps) in
    let turn = index_turn c.args.setting.now (suc c.args.setting.now.below) c.loop.counter (view c.loop.left.tree) _ _ c.loop.left.rest.now _ (omega arith) low none full inside in
    let made = ap (λ (y : Expression × List Token). selections_at c.args.setting.now (suc c.args.setting.now.below - (c.loop.counter + 1)) y.0 y.1) c.in_ok-left-2.ensures.value in
    record {
      same = made ∙ (sym turn ∙ c.loop.invariant.same);
      height = c.in_ok-left-2.ensures.height.0;
      limit = grind (arith, common_steps);
    }
