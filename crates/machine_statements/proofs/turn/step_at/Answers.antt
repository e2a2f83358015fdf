use Rattle.std.proofs.Common.{◌+◌, ◌∷◌, drop, sym, ap, ◌∙◌}
use Rattle.std.specs.declared.rc.Rc.{Rc}
use Rattle.std.specs.declared.alloc.Global.{Global}
use Rattle.je_core.specs.declared.expr.Expr.{Expr}
use Rattle.je_core.specs.View.{view, views, stmt_form_view}
use Rattle.je_java.specs.Meaning.{behind_labels, steps_of}
use Rattle.machine_parts.proofs.Lists.{drop-seen}
use Rattle.machine_statements.proofs.turn.step_at.Goals as goal

pub returns-in_ok-clone-in-Some-get-clause-goes : goal.returns-in_ok-clone-in-Some-get-clause-goes
returns-in_ok-clone-in-Some-get-clause-goes c =
    let found = c.in-Some-get.ensures.lookup in
    drop-seen (λ (e : Rc Expr Global). view e.value) c.deref.result.now _ c.args.at _ (c.in-Some.ensures ∙ ap views (sym c.deref.ensures.value)) found.3.0 found.1
    ∙ ap (λ (e : Expr). view e ∷ drop (c.args.at + 1) (steps_of (behind_labels (stmt_form_view c.args.form.now)))) (sym c.in_ok-clone-in-Some-get.ensures.cases)
