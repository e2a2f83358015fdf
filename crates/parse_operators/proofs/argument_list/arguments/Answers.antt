use Rattle.std.proofs.Common.{◌≡◌, [], Some, None, length, IfOk, subst, sym, arith}
use Rattle.std.proofs.lemmas.Grind.{common_steps}
use Rattle.je_token.specs.declared.symbol.Symbol.TheVariants as symbol
use Rattle.je_ast.specs.Trees.{Expressions}
use Rattle.parse_laws.specs.way.Tokens.{behind}
use Rattle.parse_laws.specs.way.Expressions.{Closed}
use Rattle.parse_below.specs.way.Views.{seen_items}
use Rattle.parse_below.specs.way.Readings.{below_at, body_at}
use Rattle.parse_operators.specs.way.Readings.{arguments_at, more_arguments_at}
use Rattle.parse_operators.proofs.Steps.{arguments_some}
use Rattle.parse_operators.proofs.argument_list.arguments.Goals as goal

pub returns-clause-value : goal.returns-clause-value
returns-clause-value g c =
    let opened : behind symbol.OpenParen c.args.tokens.now ≡ Some c.in-Some.inside.now = grind (arith, common_steps) in
    let more : behind symbol.CloseParen c.in-Some.inside.now ≡ None = grind (arith, common_steps) in
    let same : more_arguments_at c.args.setting.now (length c.in-Some.inside.now) [] c.in-Some.inside.now ≡ arguments_at c.args.setting.now c.args.tokens.now =
    sym (arguments_some c.args.setting.now.texts.now c.args.setting.now.below (below_at c.args.setting.now) (body_at c.args.setting.now) c.args.tokens.now c.in-Some.inside.now opened more) in
    subst (λ (x : Closed Expressions). IfOk c.more_arguments.result (λ o. seen_items o ≡ x)) same c.more_arguments.ensures.value
