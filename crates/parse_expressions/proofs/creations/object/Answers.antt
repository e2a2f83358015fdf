use Rattle.std.proofs.Common.{◌≡◌, List, Some, sym, ap, ◌∙◌, arith}
use Rattle.std.proofs.lemmas.Grind.{common_steps}
use Rattle.je_token.specs.declared.token.Token.{Token}
use Rattle.je_ast.specs.Types.{type_view}
use Rattle.je_ast.specs.Trees.{Expression}
use Rattle.je_ast.specs.View.{views_of}
use Rattle.parse_laws.specs.way.Types.{reference_at}
use Rattle.parse_operators.specs.way.Readings.{arguments_at}
use Rattle.parse_expressions.proofs.CreationTurns.{object_plain, object_anonymous}
use Rattle.parse_expressions.proofs.creations.object.Goals as goal

pub returns-in-Some-3-clause-value : goal.returns-in-Some-3-clause-value
returns-in-Some-3-clause-value g c =
    let class : reference_at c.args.setting.now.below c.args.tokens.now ≡ Some (type_view c.in-Some.class.tree, c.in-Some-whole.behind_class.now) = grind (arith, common_steps) in
    let args : arguments_at c.args.setting.now c.in-Some-whole.behind_class.now ≡ Some (views_of c.in-Some-2.args.items.items, c.in-Some-2.args.close, c.in-Some-2.args.rest.now) = grind (arith, common_steps) in
    let read = rw c.in-Some-3.is at (c.requires.body_reads _ _ c.in_ok-members.ensures) in
    let made = object_anonymous c.args.setting.now c.args.word c.args.tokens.now _ _ _ _ _ _ _ _ class args (sym read.0) in
    ap (λ (x : Expression × List Token). Some x) c.anonymous.ensures.value ∙ sym made

pub returns-in-None-clause-value : goal.returns-in-None-clause-value
returns-in-None-clause-value g c =
    let class : reference_at c.args.setting.now.below c.args.tokens.now ≡ Some (type_view c.in-Some.class.tree, c.in-Some-whole.behind_class.now) = grind (arith, common_steps) in
    let args : arguments_at c.args.setting.now c.in-Some-whole.behind_class.now ≡ Some (views_of c.in-Some-2.args.items.items, c.in-Some-2.args.close, c.in-Some-2.args.rest.now) = grind (arith, common_steps) in
    let read = rw c.in-None.is at (c.requires.body_reads _ _ c.in_ok-members.ensures) in
    let made = object_plain c.args.setting.now c.args.word c.args.tokens.now _ _ _ _ _ class args (sym read.0) in
    ap (λ (x : Expression × List Token). Some x) c.plain.ensures.value ∙ sym made
