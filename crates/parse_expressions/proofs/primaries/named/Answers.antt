use Rattle.std.proofs.Common.{◌≡◌, List, false, Some, sym, ap, ◌∙◌, arith}
use Rattle.std.proofs.lemmas.Grind.{common_steps}
use Rattle.je_token.specs.declared.token.Token.{Token}
use Rattle.je_ast.specs.Trees.{Expression}
use Rattle.je_ast.specs.View.{views_of}
use Rattle.parse_laws.specs.way.Tokens.{identifier_at}
use Rattle.parse_laws.specs.way.Expressions.{is_outer_this_at}
use Rattle.parse_operators.specs.way.Readings.{arguments_at}
use Rattle.parse_expressions.proofs.OperandTurns.{named_call}
use Rattle.parse_expressions.proofs.primaries.named.Goals as goal

pub returns-clause-value : goal.returns-clause-value
returns-clause-value g c =
    let inner : is_outer_this_at c.args.tokens.now ≡ false = grind (arith, common_steps) in
    let named : identifier_at c.args.tokens.now ≡ Some (c.in-Some.method, c.in-Some.rest.now) = grind (arith, common_steps) in
    let args : arguments_at c.args.setting.now c.in-Some.rest.now ≡ Some (views_of c.in-Some-2.args.items.items, c.in-Some-2.args.close, c.in-Some-2.args.rest.now) = grind (arith, common_steps) in
    ap (λ (x : Expression × List Token). Some x) c.call.ensures.value ∙ sym (named_call c.args.setting.now c.args.tokens.now _ _ _ _ _ inner named args)
