use Rattle.std.proofs.Common.{◌≡◌, ap, ◌∙◌}
use Rattle.je_core.specs.declared.stmt.StmtForm as shape
use Rattle.je_core.specs.View.{stmt_form_view}
use Rattle.je_java.specs.Meaning.{behind_labels as the_behind_labels}
use Rattle.machine_statements.proofs.Turns.{behind_step}
use Rattle.machine_statements.proofs.turn.+behind_labels.Goals as goal

pub returns-in-Labelled : goal.returns-in-Labelled
unfolding shape.out-StmtForm denote.Hole.Carrier.out
returns-in-Labelled t c =
    let e : the_behind_labels (stmt_form_view c.args.form.now) ≡ the_behind_labels (stmt_form_view c.in-Labelled.body.value.form) =
    ap (λ f. the_behind_labels (stmt_form_view f)) c.in-Labelled.is ∙ behind_step c.in-Labelled.name c.in-Labelled.body.value in
    cc
