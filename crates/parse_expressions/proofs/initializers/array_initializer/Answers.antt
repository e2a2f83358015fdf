use Rattle.std.proofs.Common.{◌≡◌, Some, [], length, refl, arith}
use Rattle.std.proofs.lemmas.Grind.{common_steps}
use Rattle.je_token.specs.declared.symbol.Symbol.TheVariants as symbol
use Rattle.je_ast.specs.View.{views_of}
use Rattle.parse_laws.specs.way.Tokens.{behind}
use Rattle.parse_operators.specs.way.Readings.{values_at, behind_lone_comma_at}
use Rattle.parse_expressions.proofs.InitializerTurns.{initializer_read}
use Rattle.parse_expressions.proofs.initializers.array_initializer.Goals as goal

pub returns-clause-value : goal.returns-clause-value
returns-clause-value g c =
    let opened : behind symbol.OpenBrace c.args.tokens.now ≡ Some c.in-Some.inside.now = grind (arith, common_steps) in
    let values : values_at c.args.setting.now (length c.in-Some.inside.now) [] (behind_lone_comma_at c.in-Some.inside.now) ≡ Some (views_of c.in-Some-2.values.items.items, c.in-Some-2.values.close, c.in-Some-2.values.rest.now) = grind (arith, common_steps) in
    let read = initializer_read c.args.setting.now c.args.tokens.now _ _ _ _ opened values in
    rw (read, c.make_array_init.ensures, c.join.ensures, c.first_span.ensures) refl
