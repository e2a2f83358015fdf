use Rattle.std.proofs.Common.{◌≡◌, ◌≤◌, suc, ◌+◌, ◌-◌, List, true, false, Some, None, sym, ap, ◌∙◌, arith}
use Rattle.std.proofs.lemmas.Grind.{common_steps}
use Rattle.je_token.specs.declared.keyword.Keyword.TheVariants as word
use Rattle.je_token.specs.declared.token.Token.{Token}
use Rattle.je_grammar.specs.Operators.{operator_level}
use Rattle.je_ast.specs.Types.{type_view}
use Rattle.je_ast.specs.Trees.{Expression}
use Rattle.je_ast.specs.View.{view}
use Rattle.je_ast.specs.Height.{height}
use Rattle.parse_laws.specs.way.Tokens.{behind_word}
use Rattle.parse_laws.specs.way.Types.{plain_type_at}
use Rattle.parse_laws.specs.way.Expressions.{binary_operator}
use Rattle.parse_below.specs.way.Readings.{below_at}
use Rattle.parse_operators.specs.way.Readings.{operations_at}
use Rattle.parse_expressions.specs.way.Views.{is_outside}
use Rattle.parse_expressions.proofs.OperatorTurns.{operations_no_test, operations_outside, instance_turn, binary_turn}
use Rattle.parse_expressions.proofs.operations.operations.Goals as goal

pub loop-preserved-in-Some : goal.loop-preserved-in-Some
loop-preserved-in-Some g c =
    let is : behind_word word.InstanceOf c.loop.left.rest.now ≡ Some c.in-Some.tested.now = grind (arith, common_steps) in
    let low : height (view c.loop.left.tree) ≤ c.args.setting.now.below = grind (arith, common_steps) in
    let inside : is_outside 9 c.args.least c.loop.most ≡ false = grind (arith, common_steps) in
    let typed : plain_type_at c.in-Some.tested.now ≡ Some (type_view c.in-Some-2.ty, c.in-Some-2.rest.now) = grind (arith, common_steps) in
    let turn = instance_turn c.args.setting.now (suc c.args.setting.now.below) c.loop.counter c.args.least c.loop.most (view c.loop.left.tree) c.loop.left.rest.now _ _ _ (omega arith) low is inside typed in
    let made = ap (λ (y : Expression × List Token). operations_at c.args.setting.now (suc c.args.setting.now.below - (c.loop.counter + 1)) c.args.least 9 y.0 y.1) c.in_ok-left.ensures.value in
    record {
      same = made ∙ (sym turn ∙ c.loop.invariant.same);
      height = c.in_ok-left.ensures.height.0;
      limit = grind (arith, common_steps);
    }

pub loop-preserved : goal.loop-preserved
loop-preserved g c =
    let none : behind_word word.InstanceOf c.loop.left.rest.now ≡ None = grind (arith, common_steps) in
    let low : height (view c.loop.left.tree) ≤ c.args.setting.now.below = grind (arith, common_steps) in
    let is : binary_operator c.loop.left.rest.now ≡ Some (c.in-Some-binary_operator.op, c.in-Some-binary_operator.rest.now) = grind (arith, common_steps) in
    let level : c.operator_level-level.result ≡ operator_level c.in-Some-binary_operator.op = c.operator_level-level.ensures in
    let inside : is_outside (operator_level c.in-Some-binary_operator.op) c.args.least c.loop.most ≡ false = grind (arith, common_steps) in
    let read = rw c.in-Some-3.is at (c.requires.reads _ _ c.in_ok-right.ensures) in
    let right : (below_at c.args.setting.now).expression (operator_level c.in-Some-binary_operator.op + 1) c.in-Some-binary_operator.rest.now ≡ Some (view c.in-Some-3.right.tree, c.in-Some-3.right.rest.now) = rw (← level) (sym read.0) in
    let turn = binary_turn c.args.setting.now (suc c.args.setting.now.below) c.loop.counter c.args.least c.loop.most (view c.loop.left.tree) _ c.loop.left.rest.now _ _ c.in-Some-binary_operator.op (omega arith) low none is inside right in
    let made = ap (λ (y : Expression × List Token). operations_at c.args.setting.now (suc c.args.setting.now.below - (c.loop.counter + 1)) c.args.least (operator_level c.in-Some-binary_operator.op) y.0 y.1) c.in_ok-left-2.ensures.value in
    record {
      same = rw level (made ∙ (sym turn ∙ c.loop.invariant.same));
      height = c.in_ok-left-2.ensures.height.0;
      limit = grind (arith, common_steps);
    }

pub returns-then-is_outside-clause-value : goal.returns-then-is_outside-clause-value
returns-then-is_outside-clause-value g c =
    let is : behind_word word.InstanceOf c.loop.left.rest.now ≡ Some c.in-Some.tested.now = grind (arith, common_steps) in
    let low : height (view c.loop.left.tree) ≤ c.args.setting.now.below = grind (arith, common_steps) in
    let outside : is_outside 9 c.args.least c.loop.most ≡ true = grind (arith, common_steps) in
    sym (operations_no_test c.args.setting.now (suc c.args.setting.now.below - c.loop.counter) c.args.least c.loop.most (view c.loop.left.tree) c.loop.left.rest.now _ low is outside) ∙ c.loop.invariant.same

pub returns-then-is_outside-2-clause-value : goal.returns-then-is_outside-2-clause-value
returns-then-is_outside-2-clause-value g c =
    let none : behind_word word.InstanceOf c.loop.left.rest.now ≡ None = grind (arith, common_steps) in
    let low : height (view c.loop.left.tree) ≤ c.args.setting.now.below = grind (arith, common_steps) in
    let is : binary_operator c.loop.left.rest.now ≡ Some (c.in-Some-binary_operator.op, c.in-Some-binary_operator.rest.now) = grind (arith, common_steps) in
    let outside : is_outside (operator_level c.in-Some-binary_operator.op) c.args.least c.loop.most ≡ true = grind (arith, common_steps) in
    sym (operations_outside c.args.setting.now (suc c.args.setting.now.below - c.loop.counter) c.args.least c.loop.most (view c.loop.left.tree) c.loop.left.rest.now _ _ low none is outside) ∙ c.loop.invariant.same
