use Rattle.std.proofs.Common.{◌≡◌, ℕ, List, map, take, drop, ap, ◌∙◌}
use Rattle.std.specs.Prelude.{Bool}
use Rattle.std.specs.List.{list_any}
use Rattle.je_core.specs.declared.program.Field.{Field}
use Rattle.je_core.specs.Core.{CoreField}
use Rattle.je_core.specs.View.{field_view}
use Rattle.je_fitting.specs.Expressions.{outer_count}
use Rattle.je_types.specs.Views.{program_of}
use Rattle.taming_db.specs.View.{rows}
use Rattle.inner_capture.specs.InnerCapture.{is_other}
use Rattle.inner_capture.proofs.Captured.{seen}
use Rattle.inner_capture.proofs.enclosing.captures_other.Goals as goal

pub returns : goal.returns
returns c =
    let class = c.args.class.now in
    let n = outer_count class.enclosing in
    let any : List CoreField → Bool = list_any (is_other (program_of c.args.typed.now) (rows c.args.taming.now) c.args.marker) in
    let fields : c.first-captured.result.now ≡ take class.captured (drop n class.fields.items) = cc (c.first-captured.ensures, c.past-behind.ensures, c.outer_count.ensures, c.deref.ensures.value) in
    c.one_is_other.ensures ∙ ap (λ (fs : List Field). any (map field_view fs)) fields ∙ ap any (seen n class.captured class.fields.items)
