-- One label before a group.
use Rattle.std.specs.Prelude.{ℕ, Option}
use Rattle.je_ast.specs.Parts.{LabelPart, case_part, default_part}
use Rattle.je_ast.specs.Spans.{span_of}
use Rattle.je_typing.specs.Judged.{Judged, gives, ◌>>=◌}
use Rattle.body_typing.specs.FinalVariables.{Scope}
use Rattle.statement_steps.specs.Switches.{WrittenLabel, case, default}
use Rattle.body_typing.specs.Bodies.{Progress}
use Rattle.body_typing.specs.Switches.{behind_label, label_value}
use Rattle.statement_forms.specs.declared.walk.Walk.{Walk}
use Rattle.statement_forms.specs.Seen.{known_of, program_of}

module _ (w : Walk) (of_enum : Option ℕ) (s : Scope) where
  abbrev pub one_label : LabelPart → Judged WrittenLabel
  one_label (case_part e) = do
    t ← label_value (program_of w) (known_of w) of_enum s of_enum e
    gives (case (span_of e) t)
  one_label (default_part word) = gives (default word)

  abbrev pub behind_one : LabelPart → Progress → Progress
  behind_one (case_part e) pr = behind_label (program_of w) (known_of w) of_enum s of_enum e pr
  behind_one (default_part word) pr = pr
