-- Statements with statements in them, by what plays a part in them: their span does not.
use Rattle.std.specs.Prelude.{Bool, Option}
use Rattle.je_base.specs.declared.span.Span.{Span}
use Rattle.je_ast.specs.declared.name.Identifier.{Identifier}
use Rattle.je_ast.specs.Parts.{BlockPart}
use Rattle.je_ast.specs.Trees.{Catches, Expression, Expressions, ForInitializer, Groups, MaybeExpression, Statement}
use Rattle.je_ast.specs.Trees as tree
use Rattle.je_ast.specs.Types.{TypeName}
use Rattle.je_fitting.specs.Statements.{Targets}
use Rattle.je_typing.specs.Judged.{Judged}
use Rattle.body_typing.specs.FinalVariables.{Scope}
use Rattle.body_typing.specs.Bodies.{Done, Progress}
use Rattle.body_typing.specs.Statements.{statement}
use Rattle.statement_forms.specs.declared.walk.Walk.{Walk}
use Rattle.statement_forms.specs.Seen.{known_of, program_of, returning_of}

-- behind a label, if there is one
abbrev pub statement_by : Walk → Targets → Option Identifier → Scope → Progress → Statement → Judged Done
statement_by w = statement (program_of w) (known_of w) (returning_of w)

abbrev pub an_if : Span → Expression → Statement → Statement
an_if word c b = tree.if_only word c b word

abbrev pub an_if_else : Span → Expression → Statement → Statement → Statement
an_if_else word c b b' = tree.if_else word c b b' word

abbrev pub a_while : Span → Expression → Statement → Statement
a_while word c b = tree.while word c b word

abbrev pub a_do_while : Span → Statement → Expression → Statement
a_do_while word b c = tree.do_while word b c word

abbrev pub a_labelled : Identifier → Statement → Statement
a_labelled id b = tree.labelled id b id.span

abbrev pub a_for : Span → ForInitializer → MaybeExpression → Expressions → Statement → Statement
a_for word start c es b = tree.for word start c es b word

abbrev pub a_for_each : Span → Bool → TypeName → Identifier → Expression → Statement → Statement
a_for_each word is_final t id e b = tree.for_each word is_final t id e b word

abbrev pub a_switch : Span → Expression → Groups → Span → Statement
a_switch word e gs span = tree.switch word e gs span

abbrev pub a_try : Span → BlockPart → Catches → Statement
a_try word b cs = tree.try word b.opening b.stmts b.closing cs word

abbrev pub a_try_finally : Span → BlockPart → Catches → Span → BlockPart → Statement
a_try_finally word b cs at c = tree.try_finally word b.opening b.stmts b.closing cs at c.opening c.stmts c.closing word

abbrev pub a_block : BlockPart → Statement
a_block b = tree.block b.opening b.stmts b.closing
