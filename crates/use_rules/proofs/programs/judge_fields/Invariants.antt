use Rattle.std.proofs.Common.{◌≡◌, drop, map}
use Rattle.je_core.specs.View.{field_view}
use Rattle.je_types.specs.Views.{program_of}
use Rattle.rule_breaks.specs.Breaks.{of_each}
use Rattle.rule_breaks.specs.way.Found.{followed_by}
use Rattle.taming_db.specs.View.{rows}
use Rattle.use_rules.specs.Programs.{field_breaks}
use Rattle.use_rules.proofs.programs.judge_fields.Given as goal

abbrev pub invariant-loop-field : goal.invariant-loop-field
invariant-loop-field l = followed_by l.found (of_each (field_breaks (program_of l.typed) (rows l.taming)) (map field_view (drop l.field-index l.fields))) ≡ followed_by l.fn.found (of_each (field_breaks (program_of l.typed) (rows l.taming)) (map field_view l.fields))
