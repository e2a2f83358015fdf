-- One catch of a `try`, but for what is judged behind all blocks.
use Rattle.std.specs.Prelude.{None}
use Rattle.je_ast.specs.Parts.{CatchPart}
use Rattle.je_fitting.specs.Statements.{Targets}
use Rattle.je_typing.specs.Judged.{Judged, gives, ◌>>=◌}
use Rattle.body_types.specs.BodyTypes.{bare_type}
use Rattle.body_typing.specs.FinalVariables.{Scope}
use Rattle.body_typing.specs.Bodies.{Progress, local_of, next_number, with_local, with_number}
use Rattle.body_typing.specs.Catches.{Clause, caught_name}
use Rattle.body_typing.specs.Statements.{clause}
use Rattle.statement_forms.specs.declared.walk.Walk.{Walk}
use Rattle.statement_forms.specs.Seen.{known_of, program_of, returning_of}
use Rattle.type_statements.specs.Walk.{statements_by}

pub record CaughtDone : Type 0 where
  pub clause : Clause
  pub progress : Progress

abbrev pub one_catch : Walk → Targets → Scope → Progress → CatchPart → Judged CaughtDone
one_catch w j s pr c = do
  t ← bare_type (program_of w) s.place.here (caught_name c.class)
  d ← statements_by w j (with_local c.is_final (local_of c.name.name t c.is_final (next_number pr) None) s)
      (with_number (program_of w).heads c.name.name t c.is_final c.name.span pr) c.block.stmts
  gives (record {
    clause = clause (program_of w) (known_of w) (returning_of w) c.name c.block.opening c.block.closing pr t c.class.span d;
    progress = d.progress;
  })
