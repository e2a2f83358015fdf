-- One group of a `switch`, but for what is judged behind all statements.
use Rattle.std.specs.Prelude.{ℕ, List, Option}
use Rattle.je_ast.specs.Parts.{GroupPart}
use Rattle.je_fitting.specs.Statements.{Targets}
use Rattle.je_typing.specs.Judged.{Judged, gives, ◌>>=◌}
use Rattle.body_typing.specs.FinalVariables.{Scope}
use Rattle.body_typing.specs.Bodies.{Done, Progress, with_classes_of}
use Rattle.body_typing.specs.Switches.{LabelsMet, WrittenGroup, labels}
use Rattle.statement_forms.specs.View.{group_seen}
use Rattle.statement_forms.specs.declared.switches.WalkedGroup.{WalkedGroup}
use Rattle.statement_forms.specs.declared.walk.Walk.{Walk}
use Rattle.statement_forms.specs.Seen.{known_of, program_of}
use Rattle.type_statements.specs.Walk.{statements_by}

pub record GroupDone : Type 0 where
  pub group : WrittenGroup
  pub numbers : List ℕ
  pub scope : Scope
  pub progress : Progress

abbrev pub grouped : Scope → LabelsMet → Done → GroupDone
grouped s l d = record {
  group = record { labels = l.labels; parts = d.code };
  numbers = d.numbers;
  scope = with_classes_of s d.scope;
  progress = d.progress;
}

abbrev pub group_done : WalkedGroup → Scope → Progress → GroupDone
group_done g s pr = record { group = group_seen g.group; numbers = g.numbers.items; scope = s; progress = pr }

abbrev pub one_group : Walk → Targets → Option ℕ → Scope → Progress → GroupPart → Judged GroupDone
one_group w j of_enum s pr g = do
  l ← labels (program_of w) (known_of w) of_enum s pr g.labels
  d ← statements_by w j s l.progress g.stmts
  gives (grouped s l d)
