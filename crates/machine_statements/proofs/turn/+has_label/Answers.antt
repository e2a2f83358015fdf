use Rattle.std.proofs.Common.{◌≡◌, ap, ◌∙◌, arith}
use Rattle.std.specs.Prelude.{◌||◌, nat_eq}
use Rattle.std.specs.List.{list_any}
use Rattle.std.proofs.lemmas.Bool.Decides.{nat_tests}
use Rattle.je_base.specs.declared.span.NameId.{NameId}
use Rattle.je_core.specs.declared.stmt.StmtForm as shape
use Rattle.je_core.specs.View.{stmt_form_view}
use Rattle.je_java.specs.Meaning.{labels_of}
use Rattle.machine_statements.proofs.Turns.{label_step}
use Rattle.machine_statements.proofs.turn.+has_label.Goals as goal

pub returns-else-own-name : goal.returns-else-own-name
unfolding shape.out-StmtForm denote.Hole.Carrier.out
returns-else-own-name t c =
    let e : list_any (λ (own : NameId). nat_eq own.0 c.args.name.0) (labels_of (stmt_form_view c.args.form.now)) ≡
    (nat_eq c.in-Labelled.own.0 c.args.name.0 || list_any (λ (own : NameId). nat_eq own.0 c.args.name.0) (labels_of (stmt_form_view c.in-Labelled.body.value.form))) =
    ap (λ f. list_any (λ (own : NameId). nat_eq own.0 c.args.name.0) (labels_of (stmt_form_view f))) c.in-Labelled.is ∙ label_step c.args.name c.in-Labelled.own c.in-Labelled.body.value in
    grind (arith, nat_tests)
