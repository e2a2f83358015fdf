use Rattle.je_types.specs.Views.{program_of}
use Rattle.taming_db.specs.View.{rows}
use Rattle.rule_breaks.specs.Breaks.{◌∪◌}
use Rattle.static_rules.specs.StaticRules.{static_breaks}
use Rattle.field_rules.specs.FieldRules.{field_breaks}
use Rattle.selfless_rules.specs.SelflessRules.{selfless_breaks}
use Rattle.inner_capture.specs.InnerCapture.{inner_breaks}
use Rattle.ctor_escape.specs.Programs.{program_escapes}
use Rattle.use_rules.specs.Programs.{program_breaks as use_breaks}
use Rattle.je_verify.specs.Broken.{broken}
use Rattle.je_verify.proofs.judging.broken.Goals as goal

pub returns : goal.returns
unfolding broken
returns c =
    let p = program_of c.args.typed.now in
    let r = rows c.args.taming.now in
    let last = c.in_ok-merged.ensures (program_escapes p) (use_breaks p r) c.in_ok-escapes.ensures c.in_ok-uses.ensures in
    let from_inner = c.in_ok-merged-2.ensures (inner_breaks p r) (program_escapes p ∪ use_breaks p r) c.in_ok-inner.ensures last in
    let from_selfless = c.in_ok-merged-3.ensures (selfless_breaks p r) (inner_breaks p r ∪ program_escapes p ∪ use_breaks p r) c.in_ok-selfless.ensures from_inner in
    let from_fields = c.in_ok-merged-4.ensures (field_breaks p r) (selfless_breaks p r ∪ inner_breaks p r ∪ program_escapes p ∪ use_breaks p r) c.in_ok-fields.ensures from_selfless in
    c.merged-5.ensures (static_breaks p r) (field_breaks p r ∪ selfless_breaks p r ∪ inner_breaks p r ∪ program_escapes p ∪ use_breaks p r) c.in_ok-statics.ensures from_fields
