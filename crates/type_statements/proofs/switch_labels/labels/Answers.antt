use Rattle.std.proofs.Common.{arith}
use Rattle.std.proofs.lemmas.Result.{err_from_is_err_and}
use Rattle.std.specs.Prelude.{option_map}
use Rattle.je_core.specs.declared.types.ClassId.{ClassId}
use Rattle.je_typing.specs.Answers.{wants_memory}
use Rattle.body_scopes.specs.View.{scope_seen}
use Rattle.statement_forms.specs.Seen.{progress_seen}
use Rattle.type_statements.proofs.LabelLists.{labels_on}
use Rattle.type_statements.proofs.switch_labels.labels.Goals as goal

pub returns-in_err-push-clause-err : goal.returns-in_err-push-clause-err
returns-in_err-push-clause-err c =
    let p = err_from_is_err_and c.from_residual-in_err-push.result c.from_residual-in_err-push.ensures.1 in
    rw (p.1, p.2) wants_memory

pub loop-written-preserved : goal.loop-written-preserved
loop-written-preserved c =
    labels_on c.args.walk (option_map (λ (n : ClassId). n.0) c.args.of_enum) (scope_seen c.args.scope.now) c.args.list.now _ c.loop-written.written-index
    c.loop-written.made.items (progress_seen c.loop-written.progress) c.written-item.result c.push.new.self.items c.in_ok-next.next
    (progress_seen c.label.new.progress) (omega arith) c.written-item.is c.loop-written.invariant c.in_ok-next.ensures.ok c.in_ok-push.ensures.items
    c.in_ok-next.ensures.met
