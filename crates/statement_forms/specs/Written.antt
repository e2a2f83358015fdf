-- Statements without statements in them, by what plays a part in them: their span does not, nor does a label before them.
use Rattle.std.specs.Prelude.{Bool, true, false, Option, None}
use Rattle.je_base.specs.declared.span.Span.{Span}
use Rattle.je_ast.specs.declared.name.Identifier.{Identifier}
use Rattle.je_ast.specs.Trees.{Statement}
use Rattle.je_ast.specs.Trees as tree
use Rattle.je_fitting.specs.Statements.{Targets, no_targets}
use Rattle.je_typing.specs.Judged.{Judged}
use Rattle.body_typing.specs.FinalVariables.{Scope}
use Rattle.body_typing.specs.Bodies.{Done, Progress}
use Rattle.body_typing.specs.Statements.{statement}
use Rattle.statement_forms.specs.declared.walk.Walk.{Walk}
use Rattle.statement_forms.specs.Seen.{known_of, program_of, returning_of}

-- among what jumps may lead to, which plays a part in jumps alone
abbrev pub statement_among : Walk → Targets → Scope → Progress → Statement → Judged Done
statement_among w j = statement (program_of w) (known_of w) (returning_of w) j None

abbrev pub statement_of : Walk → Scope → Progress → Statement → Judged Done
statement_of w = statement_among w no_targets

abbrev pub an_empty : Span → Statement
an_empty span = tree.empty span

abbrev pub a_jump : Bool → Span → Option Identifier → Statement
a_jump false word to = tree.break word to word
a_jump true word to = tree.continue word to word
