-- Statements of an expression: what each comes to, of its value and what is mentioned.
use Rattle.std.proofs.Common.{◌≡◌, refl, sym, ap, ◌∙◌, subst}
use Rattle.je_base.specs.declared.span.Span.{Span}
use Rattle.je_ast.specs.Spans.{span_of}
use Rattle.je_ast.specs.Trees.{Expression, an_expression as some_expression, no_expression}
use Rattle.je_core.specs.Core.{CoreStmt}
use Rattle.je_typing.specs.Judged.{Judged, bind, gives}
use Rattle.je_typing.specs.Typed.{TypedNode}
use Rattle.je_typing.proofs.Walks.{bind_gives}
use Rattle.statement_steps.specs.Returns.{returned, returned_value}
use Rattle.statement_steps.specs.Thrown.{thrown}
use Rattle.body_typing.specs.Expressions.{expression, read}
use Rattle.body_typing.specs.FinalVariables.{Scope}
use Rattle.body_typing.specs.Bodies.{Done, Progress, behind, one, performed}
use Rattle.body_typing.specs.Statements.{valued}
use Rattle.statement_forms.specs.declared.walk.Walk.{Walk}
use Rattle.statement_forms.specs.Seen.{known_of, program_of, returning_of}
use Rattle.statement_forms.specs.Written.{statement_of}
use Rattle.type_statements.specs.Written.{a_return, a_throw, an_expression}

module _ (w : Walk) (s : Scope) (pr later : Progress) (e : Expression) (t : TypedNode) (met : later ≡ behind (program_of w) s e pr) (code : CoreStmt) (d : Done)
    (made : d ≡ one code s later) where
  pub expression_is : (start : Span) → expression (program_of w) (known_of w) s read e ≡ gives t → code ≡ performed start t.node →
      statement_of w s pr (an_expression start e) ≡ gives d
  expression_is start h is =
      bind_gives (expression (program_of w) (known_of w) s read e) _ t h
      ∙ ap gives (sym (made ∙ ap (λ (x : CoreStmt). one x s later) is ∙ ap (λ (q : Progress). one (performed start t.node) s q) met))

  pub throw_is : (word at : Span) → at ≡ span_of e → valued (program_of w) (known_of w) (returning_of w) s e ≡ gives t → thrown (program_of w).heads word at t ≡ gives code →
      statement_of w s pr (a_throw word e) ≡ gives d
  throw_is word at here h g =
      bind_gives (valued (program_of w) (known_of w) (returning_of w) s e) _ t h
      ∙ bind_gives (thrown (program_of w).heads word (span_of e) t) _ code (subst (λ (x : Span). thrown (program_of w).heads word x t ≡ gives code) here g)
      ∙ ap gives (sym (made ∙ ap (λ (q : Progress). one code s q) met))

  pub return_is : (word at : Span) → at ≡ span_of e → valued (program_of w) (known_of w) (returning_of w) s e ≡ gives t →
      returned_value (program_of w).heads (returning_of w) word at t ≡ gives code → statement_of w s pr (a_return word (some_expression e)) ≡ gives d
  return_is word at here h g =
      ap (λ (m : Judged CoreStmt). bind m (λ (c : CoreStmt). gives (one c s (behind (program_of w) s e pr))))
      (bind_gives (valued (program_of w) (known_of w) (returning_of w) s e) _ t h
      ∙ subst (λ (x : Span). returned_value (program_of w).heads (returning_of w) word x t ≡ gives code) here g)
      ∙ bind_gives (gives code) (λ (c : CoreStmt). gives (one c s (behind (program_of w) s e pr))) code refl
      ∙ ap gives (sym (made ∙ ap (λ (q : Progress). one code s q) met))

pub return_nothing : (w : Walk) (s : Scope) (pr : Progress) (word : Span) (code : CoreStmt) (d : Done) → returned (returning_of w) word ≡ gives code → d ≡ one code s pr →
    statement_of w s pr (a_return word no_expression) ≡ gives d
return_nothing w s pr word code d h made = bind_gives (returned (returning_of w) word) _ code h ∙ ap gives (sym made)
