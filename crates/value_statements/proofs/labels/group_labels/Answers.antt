use Rattle.std.proofs.Common.{◌+◌, List, [], ◌∷◌, drop, map, ap, sym, subst, ◌∙◌, arith}
use Rattle.std.proofs.lemmas.List.{map-append}
use Rattle.std.proofs.lemmas.Result.{err_from_is_err_and}
use Rattle.je_core.specs.Core.{CoreLabel}
use Rattle.je_core.specs.View.{label_view}
use Rattle.je_typing.specs.Answers.{wants_memory}
use Rattle.name_types.specs.View.{shown}
use Rattle.source_subtypes.specs.View.{heads_of}
use Rattle.value_statements.specs.Labels.{label_seen}
use Rattle.value_statements.proofs.Labelled.{Labelling, label_fails, label_on, labels_end}
use Rattle.value_statements.proofs.labels.group_labels.Goals as goal

pub returns-in_err-label-clause-err : goal.returns-in_err-label-clause-err
returns-in_err-label-clause-err c =
    let p = err_from_is_err_and c.from_residual.result c.from_residual.ensures.1 in
    rw (p.1, p.2) (λ before k.
    let l = c.loop-at.invariant before k in
    label_fails (heads_of c.args.heads.now) (shown c.args.selector.now) before c.args.written.now c.loop-at.at (map label_view c.loop-at.made.items) c.loop-at.met l
    c.index-written-at.result _ (omega arith) c.index-written-at.is (c.in_err-label.ensures.err l.after l.known))

pub returns-in_err-push-clause-err : goal.returns-in_err-push-clause-err
returns-in_err-push-clause-err c =
    let p = err_from_is_err_and c.from_residual-in_err-push.result c.from_residual-in_err-push.ensures.1 in
    rw (p.1, p.2) (λ before k. wants_memory)

pub loop-at-preserved : goal.loop-at-preserved
loop-at-preserved c =
    λ before k.
    let l = c.loop-at.invariant before k in
    let items = ap (map label_view) c.in_ok-push.ensures.items ∙ map-append label_view c.loop-at.made.items (c.in_ok-label.label ∷ []) in
    subst (λ (made : List CoreLabel). Labelling (heads_of c.args.heads.now) (shown c.args.selector.now) before (map label_seen c.args.written.now) (map label_seen (drop (c.loop-at.at + 1) c.args.written.now)) made c.next_label.new.met) (sym items)
    (label_on (heads_of c.args.heads.now) (shown c.args.selector.now) before c.args.written.now c.loop-at.at (map label_view c.loop-at.made.items) c.loop-at.met l
    c.index-written-at.result (label_view c.in_ok-label.label) c.next_label.new.met (omega arith) c.index-written-at.is (c.in_ok-label.ensures.ok l.after l.known) (c.in_ok-label.ensures.met l.after l.known))

pub returns-clause-ok : goal.returns-clause-ok
returns-clause-ok c =
    λ before k. labels_end (heads_of c.args.heads.now) (shown c.args.selector.now) before c.args.written.now c.loop-at.at (map label_view c.loop-at.made.items) c.loop-at.met (c.loop-at.invariant before k) (omega arith)
