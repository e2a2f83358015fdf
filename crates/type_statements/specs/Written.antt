-- Statements of expressions, by what plays a part in them: their span does not.
use Rattle.je_base.specs.declared.span.Span.{Span}
use Rattle.je_ast.specs.Trees.{Expression, MaybeExpression, Statement}
use Rattle.je_ast.specs.Trees as tree

abbrev pub an_expression : Span → Expression → Statement
an_expression start e = tree.expression_statement start e start

abbrev pub a_return : Span → MaybeExpression → Statement
a_return word e = tree.return word e word

abbrev pub a_throw : Span → Expression → Statement
a_throw word e = tree.throw word e word
