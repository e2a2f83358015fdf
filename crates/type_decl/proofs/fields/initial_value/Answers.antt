use Rattle.std.proofs.Common.{◌≡◌, IfErr, IfOk, subst}
use Rattle.je_ast.specs.View.{view as tree_of}
use Rattle.je_typing.specs.Answers.{IsFault}
use Rattle.je_typing.specs.Judged.{gives}
use Rattle.name_types.specs.View.{shown}
use Rattle.typed_nodes.specs.Seen.{seen}
use Rattle.body_typing.specs.Expressions.{expression, initial, value}
use Rattle.body_typing.specs.FinalVariables.{Scope}
use Rattle.member_forms.specs.Seen.{known_of, program_of}
use Rattle.type_decl.proofs.fields.initial_value.Goals as goal

pub returns-clause-ok : goal.returns-clause-ok
returns-clause-ok c =
    subst (λ (s : Scope). IfOk c.value.result (λ t. value (expression (program_of c.args.walk) (known_of c.args.walk) s (initial (shown c.args.field.now.ty)) (tree_of c.args.expr.now)) ≡ gives (seen t)))
    c.field_scope-scope.ensures c.value.ensures.ok

pub returns-clause-err : goal.returns-clause-err
returns-clause-err c =
    subst (λ (s : Scope). IfErr c.value.result (IsFault (value (expression (program_of c.args.walk) (known_of c.args.walk) s (initial (shown c.args.field.now.ty)) (tree_of c.args.expr.now)))))
    c.field_scope-scope.ensures c.value.ensures.err
