-- The walk of `body_typing` over the statements of a block, by what the code knows of their body.
use Rattle.je_ast.specs.Trees.{Statements}
use Rattle.je_fitting.specs.Statements.{Targets}
use Rattle.je_typing.specs.Judged.{Judged}
use Rattle.body_typing.specs.FinalVariables.{Scope}
use Rattle.body_typing.specs.Bodies.{Done, Progress}
use Rattle.body_typing.specs.Statements.{statements}
use Rattle.statement_forms.specs.declared.walk.Walk.{Walk}
use Rattle.statement_forms.specs.Seen.{known_of, program_of, returning_of}

abbrev pub statements_by : Walk → Targets → Scope → Progress → Statements → Judged Done
statements_by w = statements (program_of w) (known_of w) (returning_of w)
