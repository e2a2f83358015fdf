use Rattle.std.proofs.Common.{◌≡◌, Some, IfOk, subst, sym, arith}
use Rattle.std.proofs.lemmas.Grind.{common_steps}
use Rattle.je_token.specs.declared.keyword.Keyword.TheVariants as word
use Rattle.je_ast.specs.Trees.{Expression}
use Rattle.je_ast.specs.View.{view}
use Rattle.parse_laws.specs.way.Tokens.{Read, behind_word}
use Rattle.parse_types.specs.way.Views.{seen}
use Rattle.parse_operators.specs.way.Readings.{created_at}
use Rattle.je_grammar.specs.Tokens.{first_span}
use Rattle.parse_expressions.proofs.CreationTurns.{creation_made}
use Rattle.parse_expressions.proofs.creations.creation.Goals as goal

pub returns-then-setting-gt0-clause-value : goal.returns-then-setting-gt0-clause-value
returns-then-setting-gt0-clause-value g c =
    let new : behind_word word.New c.args.tokens.now ≡ Some c.in-Some.made.now = grind (arith, common_steps) in
    let read : IfOk c.created.result (λ o. seen view o ≡ created_at c.args.setting.now (first_span c.args.tokens.now) c.in-Some.made.now) = grind (arith, common_steps) in
    subst (λ (x : Read Expression). IfOk c.created.result (λ o. seen view o ≡ x)) (sym (creation_made c.args.setting.now c.args.tokens.now _ new (omega arith))) read
