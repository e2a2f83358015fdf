use Rattle.std.proofs.Common.{◌≡◌, drop, subst, ◌∙◌}
use Rattle.std.specs.Int.{w64}
use mir.Val.{SFits}
use Rattle.std.proofs.lemmas.Int.{to_z-of_z}
use Rattle.je_core.specs.declared.stmt.Stmt.{Stmt}
use Rattle.je_core.specs.View.{stmt_form_view}
use Rattle.je_java.specs.Meaning.{selected}
use Rattle.machine_parts.specs.Ways.{groups_of, waits}
use Rattle.machine_parts.proofs.Results.{if_ok-map}
use Rattle.machine_statements.proofs.Cases.{switch_begins}
use Rattle.machine_statements.proofs.switch.switch.Goals as goal

pub returns-in-Some-clause-goes : goal.returns-in-Some-clause-goes
returns-in-Some-clause-goes c =
    let n = c.in-Some.number in
    let own : SFits w64 n = assumption c.in-Some in
    let groups = λ (s : Stmt). groups_of (stmt_form_view s.form) in
    let start : selected n (groups c.args.node.value) ≡ drop c.select-group.result (groups c.args.node.value) =
    subst (λ (s : Stmt). selected n (groups s) ≡ drop c.select-group.result (groups s)) c.deref.ensures
    (subst (λ k. selected k (groups c.deref.result.now) ≡ drop c.select-group.result (groups c.deref.result.now)) (to_z-of_z w64 n own) c.select-group.ensures) in
    if_ok-map c.cases_from.result (λ control goes p m k s.
    goes p m k s
    ∙ switch_begins m (groups c.args.node.value) c.args.value n c.select-group.result (waits p m k c.args.frames.now) s c.in-Some.ensures start)
    c.cases_from.ensures.goes
