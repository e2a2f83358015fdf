use Rattle.std.proofs.Common.{◌≡◌, Some, IfOk, subst, sym, arith}
use Rattle.std.proofs.lemmas.Grind.{common_steps}
use Rattle.je_ast.specs.Types.{type_view}
use Rattle.je_ast.specs.Trees.{Expression}
use Rattle.je_ast.specs.View.{view}
use Rattle.parse_laws.specs.way.Tokens.{Read}
use Rattle.parse_laws.specs.way.Types.{element_at}
use Rattle.parse_types.specs.way.Views.{seen}
use Rattle.parse_expressions.proofs.CreationTurns.{array_element}
use Rattle.parse_expressions.proofs.creations.array.Goals as goal

pub returns-clause-value : goal.returns-clause-value
returns-clause-value g c =
    let element : element_at c.args.tokens.now ≡ Some (type_view c.in-Some.element, c.in-Some.rest.now) = grind (arith, common_steps) in
    subst (λ (x : Read Expression). IfOk c.sized.result (λ o. seen view o ≡ x)) (sym (array_element c.args.setting.now c.args.word c.args.tokens.now _ _ element)) c.sized.ensures.value
