-- A label more before a statement, and how a loop goes on.
use Rattle.std.proofs.Common.{◌≡◌, ◌∷◌, ap, ◌∙◌}
use Rattle.std.specs.Prelude.{◌||◌, nat_eq}
use Rattle.std.specs.List.{list_any}
use Rattle.je_base.specs.declared.span.NameId.{NameId}
use Rattle.je_core.specs.declared.stmt.Stmt.{Stmt}
use Rattle.je_core.specs.Core.{Labelled, CoreProgram}
use Rattle.je_core.specs.View.{stmt_view, stmt_form_view}
use Rattle.je_core.proofs.Views.{stmt_view_is, stmt_form_of_view}
use Rattle.je_java.specs.Meaning.{labels_of, behind_labels, turn, java}
use Rattle.je_java.proofs.Fuel.{java_again}

pub behind_step : (name : NameId) (s : Stmt) → behind_labels (Labelled name (stmt_view s)) ≡ behind_labels (stmt_form_view s.form)
behind_step name s = ap (λ t. behind_labels (Labelled name t)) (stmt_view_is s)

pub labels_step : (name : NameId) (s : Stmt) → labels_of (Labelled name (stmt_view s)) ≡ name ∷ labels_of (stmt_form_view s.form)
labels_step name s = ap (λ t. labels_of (Labelled name t)) (stmt_view_is s)

pub label_step : (sought name : NameId) (s : Stmt) →
    list_any (λ (own : NameId). nat_eq own.0 sought.0) (labels_of (Labelled name (stmt_view s))) ≡
    (nat_eq name.0 sought.0 || list_any (λ (own : NameId). nat_eq own.0 sought.0) (labels_of (stmt_form_view s.form)))
label_step sought name s = ap (list_any (λ (own : NameId). nat_eq own.0 sought.0)) (labels_step name s)

-- how a loop goes on after a turn
pub again_is : (p : CoreProgram) (s : Stmt) → (java p).again (stmt_view s) ≡ turn (java p) (stmt_view s) (stmt_form_view s.form)
again_is p s = java_again p (stmt_view s) ∙ ap (turn (java p) (stmt_view s)) (stmt_form_of_view s)
