use Rattle.std.proofs.Common.{rules, ◌≡◌, List, [], ◌∷◌, ◌++◌, length, map, sym, ap, ◌∙◌, subst}
use Rattle.std.proofs.lemmas.List.{map-append, nil_from_length}
use Rattle.std.proofs.lemmas.Result.{err_from_is_err_and}
use Rattle.std.specs.Vec.Iter.{into_iter_items, into_iter_len}
use Rattle.je_core.specs.Core.{CoreGroup}
use Rattle.je_core.specs.View.{group_view, label_view}
use Rattle.name_types.specs.View.{shown}
use Rattle.source_subtypes.specs.View.{heads_of}
use Rattle.statement_steps.specs.Switches.{none_met}
use Rattle.body_typing.specs.Switches.{groups_from}
use Rattle.value_statements.specs.declared.labels.WrittenLabel.{WrittenLabel}
use Rattle.value_statements.specs.Labels.{GivesLabels, label_seen}
use Rattle.statement_forms.specs.declared.switching.WrittenGroup.{WrittenGroup}
use Rattle.statement_forms.specs.View.{group_seen}
use Rattle.statement_forms.proofs.WalkedGroups.{Grouping, group_fails, group_made, groups_end, none_made}
use Rattle.statement_forms.proofs.switching.groups.Goals as goal

pub loop-group-init : goal.loop-group-init
loop-group-init c =
    let heads = heads_of c.args.heads.now in
    let all = map group_seen (into_iter_items c.into_iter-group-iterator.result) in (
      subst (λ (made : List CoreGroup). Grouping heads (shown c.args.selector.now) all all made c.none-met.result) (sym (ap (map group_view) c.new-made.ensures.items))
          (none_made heads (shown c.args.selector.now) all c.none-met.result c.none-met.ensures),
      search rules,
    )

pub loop-group-preserved : goal.loop-group-preserved
loop-group-preserved c =
    let heads = heads_of c.args.heads.now in
    let t = shown c.args.selector.now in
    let all = map group_seen (into_iter_items c.into_iter-group-iterator.result) in
    let left = into_iter_items c.next.new.self in
    let made = map group_view c.loop-group.made.items in
    let items : into_iter_items c.loop-group.group-iterator ≡ c.in-Some.group ∷ left = search rules in
    let count : into_iter_len c.next.new.self ≡ length left = search (rules, ap length items) in
    let so_far = subst (λ (gs : List WrittenGroup). Grouping heads t all (map group_seen gs) made c.loop-group.met) items c.loop-group.invariant.0 in
    let given = subst (λ (ls : List WrittenLabel). GivesLabels heads t so_far.after (map label_seen ls) (map label_view c.in_ok-labels.labels.items) c.group_labels.new.met) c.deref.ensures.value (c.in_ok-labels.ensures.ok so_far.after so_far.known) in
    let kept = ap (map group_view) c.in_ok-push.ensures.items ∙ map-append group_view c.loop-group.made.items (c.make_group.result ∷ [])
    ∙ ap (λ (g : CoreGroup). made ++ g ∷ []) c.make_group.ensures in (
      subst (λ (gs : List CoreGroup). Grouping heads t all (map group_seen left) gs c.group_labels.new.met) (sym kept)
          (group_made heads t all (map group_seen left) (group_seen c.in-Some.group) made c.loop-group.met so_far (map label_view c.in_ok-labels.labels.items) c.group_labels.new.met given),
      count,
    )

pub returns-in_err-labels-clause-err : goal.returns-in_err-labels-clause-err
returns-in_err-labels-clause-err c =
    let p = err_from_is_err_and c.from_residual.result c.from_residual.ensures.1 in
    let heads = heads_of c.args.heads.now in
    let t = shown c.args.selector.now in
    let all = map group_seen (into_iter_items c.into_iter-group-iterator.result) in
    let left = into_iter_items c.next.new.self in
    let made = map group_view c.loop-group.made.items in
    let items : into_iter_items c.loop-group.group-iterator ≡ c.in-Some.group ∷ left = search rules in
    let so_far = subst (λ (gs : List WrittenGroup). Grouping heads t all (map group_seen gs) made c.loop-group.met) items c.loop-group.invariant.0 in
    let start : c.args.written.items ≡ into_iter_items c.into_iter-group-iterator.result = search rules in
    rw (p.1, p.2, start)
    (group_fails heads t all (map group_seen left) (group_seen c.in-Some.group) made c.loop-group.met so_far _ _
    (ap (map label_seen) c.deref.ensures.value) (c.in_err-labels.ensures.err so_far.after so_far.known))

pub returns-clause-ok : goal.returns-clause-ok
returns-clause-ok c =
    let heads = heads_of c.args.heads.now in
    let t = shown c.args.selector.now in
    let all = map group_seen (into_iter_items c.into_iter-group-iterator.result) in
    let made = map group_view c.loop-group.made.items in
    let none : length (into_iter_items c.loop-group.group-iterator) ≡ 0 = sym c.loop-group.invariant.1 ∙ c.in-None.ensures.steps.0 in
    let start : c.args.written.items ≡ into_iter_items c.into_iter-group-iterator.result = search rules in
    ap (λ (gs : List WrittenGroup). groups_from heads t none_met (map group_seen gs)) start
    ∙ groups_end heads t all made c.loop-group.met
    (subst (λ (gs : List WrittenGroup). Grouping heads t all (map group_seen gs) made c.loop-group.met) (nil_from_length (into_iter_items c.loop-group.group-iterator) none) c.loop-group.invariant.0)
