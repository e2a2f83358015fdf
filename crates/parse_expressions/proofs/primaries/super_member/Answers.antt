use Rattle.std.proofs.Common.{◌≡◌, List, Some, sym, ap, ◌∙◌, arith}
use Rattle.std.proofs.lemmas.Grind.{common_steps}
use Rattle.je_token.specs.declared.token.Token.{Token}
use Rattle.je_ast.specs.Trees.{Expression}
use Rattle.je_ast.specs.View.{views_of}
use Rattle.parse_operators.specs.way.Readings.{arguments_at, behind_super_at}
use Rattle.parse_expressions.proofs.OperandTurns.{super_called}
use Rattle.parse_expressions.proofs.primaries.super_member.Goals as goal

pub returns-clause-value : goal.returns-clause-value
returns-clause-value g c =
    let member : behind_super_at c.args.tokens.now ≡ Some (c.in-Some.member, c.in-Some.rest.now) = grind (arith, common_steps) in
    let args : arguments_at c.args.setting.now c.in-Some.rest.now ≡ Some (views_of c.in-Some-2.args.items.items, c.in-Some-2.args.close, c.in-Some-2.args.rest.now) = grind (arith, common_steps) in
    let called = ap (λ (x : Expression × List Token). Some x) c.super_call.ensures.value in
    rw c.first_span-word.ensures at called ∙ sym (super_called c.args.setting.now c.args.tokens.now _ _ _ _ _ member args)
