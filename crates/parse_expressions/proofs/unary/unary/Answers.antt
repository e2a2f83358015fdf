use Rattle.std.proofs.Common.{◌≡◌, true, false, Some, None, IfOk, subst, sym, arith}
use Rattle.std.proofs.lemmas.Grind.{common_steps}
use Rattle.je_ast.specs.Trees.{Expression}
use Rattle.je_ast.specs.View.{view}
use Rattle.je_grammar.specs.Tokens.{first_span}
use Rattle.parse_laws.specs.way.Tokens.{Read}
use Rattle.parse_laws.specs.way.Types.{is_cast_at}
use Rattle.parse_laws.specs.way.Expressions.{prefix_operator}
use Rattle.parse_types.specs.way.Views.{seen}
use Rattle.parse_operators.specs.way.Readings.{prefix_at}
use Rattle.parse_expressions.proofs.OperandTurns.{unary_prefix, unary_cast, unary_postfix}
use Rattle.parse_expressions.proofs.unary.unary.Goals as goal

pub returns-in-Some-clause-value : goal.returns-in-Some-clause-value
returns-in-Some-clause-value g c =
    let before : prefix_operator c.args.tokens.now ≡ Some (c.in-Some.op, c.in-Some.rest.now) = grind (arith, common_steps) in
    let read : IfOk c.prefix.result (λ o. seen view o ≡ prefix_at c.args.setting.now c.in-Some.op (first_span c.args.tokens.now) c.in-Some.rest.now) = rw c.first_span.ensures at c.prefix.ensures.value in
    subst (λ (x : Read Expression). IfOk c.prefix.result (λ o. seen view o ≡ x)) (sym (unary_prefix c.args.setting.now c.args.tokens.now _ _ before)) read

pub returns-then-is_cast-clause-value : goal.returns-then-is_cast-clause-value
returns-then-is_cast-clause-value g c =
    let none : prefix_operator c.args.tokens.now ≡ None = grind (arith, common_steps) in
    let cast : is_cast_at c.args.tokens.now ≡ true = grind (arith, common_steps) in
    subst (λ (x : Read Expression). IfOk c.cast.result (λ o. seen view o ≡ x)) (sym (unary_cast c.args.setting.now c.args.tokens.now none cast)) c.cast.ensures.value

pub returns-clause-value : goal.returns-clause-value
returns-clause-value g c =
    let none : prefix_operator c.args.tokens.now ≡ None = grind (arith, common_steps) in
    let no_cast : is_cast_at c.args.tokens.now ≡ false = grind (arith, common_steps) in
    subst (λ (x : Read Expression). IfOk c.postfix.result (λ o. seen view o ≡ x)) (sym (unary_postfix c.args.setting.now c.args.tokens.now none no_cast)) c.postfix.ensures.value
