use Rattle.std.proofs.Common.{rules, ◌≡◌, List, [], ◌∷◌, length, map, sym, ap, ◌∙◌}
use Rattle.std.proofs.lemmas.List.{map-append, nil_from_length}
use Rattle.std.proofs.lemmas.Result.{err_from_is_err_and}
use Rattle.std.specs.Vec.Iter.{into_iter_items, into_iter_len}
use Rattle.je_core.specs.Core.{CoreCatch}
use Rattle.je_core.specs.View.{catch_view}
use Rattle.source_subtypes.specs.View.{heads_of}
use Rattle.body_typing.specs.Catches as words
use Rattle.body_walks.specs.Scopes.{scope_seen}
use Rattle.statement_forms.specs.declared.catches.Clause.{Clause}
use Rattle.statement_forms.specs.View.{clause_seen}
use Rattle.statement_forms.proofs.Caught.{clause_fails, clause_made, clauses_begin, clauses_end, left_behind}
use Rattle.statement_forms.proofs.catches.clauses.Goals as goal

pub loop-one-init : goal.loop-one-init
loop-one-init c =
    let all = map clause_seen (into_iter_items c.into_iter-one-iterator.result) in (
      ap (λ (made : List CoreCatch). left_behind (heads_of c.args.heads.now) (scope_seen c.args.scope.now) made all) (ap (map catch_view) c.new-made.ensures.items)
          ∙ clauses_begin (heads_of c.args.heads.now) (scope_seen c.args.scope.now) all,
      search rules,
    )

pub loop-one-preserved : goal.loop-one-preserved
loop-one-preserved c =
    let heads = heads_of c.args.heads.now in
    let s = scope_seen c.args.scope.now in
    let left = into_iter_items c.next.new.self in
    let made = map catch_view c.loop-one.made.items in
    let items : into_iter_items c.loop-one.one-iterator ≡ c.in-Some.one ∷ left = search rules in
    let count : into_iter_len c.next.new.self ≡ length left = search (rules, ap length items) in
    let kept = ap (map catch_view) c.in_ok-push.ensures.items ∙ map-append catch_view c.loop-one.made.items (c.in_ok-catch.catch ∷ []) in (
      ap (λ (cs : List CoreCatch). left_behind heads s cs (map clause_seen left)) kept
          ∙ clause_made heads s made (clause_seen c.in-Some.one) (map clause_seen left) (catch_view c.in_ok-catch.catch) c.in_ok-catch.ensures.ok
          ∙ ap (λ (cs : List Clause). left_behind heads s made (map clause_seen cs)) (sym items)
          ∙ c.loop-one.invariant.0,
      count,
    )

pub returns-in_err-catch-clause-err : goal.returns-in_err-catch-clause-err
returns-in_err-catch-clause-err c =
    let p = err_from_is_err_and c.from_residual.result c.from_residual.ensures.1 in
    let heads = heads_of c.args.heads.now in
    let s = scope_seen c.args.scope.now in
    let left = into_iter_items c.next.new.self in
    let made = map catch_view c.loop-one.made.items in
    let items : into_iter_items c.loop-one.one-iterator ≡ c.in-Some.one ∷ left = search rules in
    let start : c.args.written.items ≡ into_iter_items c.into_iter-one-iterator.result = search rules in
    rw (p.1, p.2, start)
    (clause_fails heads s made (clause_seen c.in-Some.one) (map clause_seen left) _ _
    (ap (λ (cs : List Clause). left_behind heads s made (map clause_seen cs)) (sym items) ∙ c.loop-one.invariant.0) c.in_err-catch.ensures.err)

pub returns-clause-ok : goal.returns-clause-ok
returns-clause-ok c =
    let heads = heads_of c.args.heads.now in
    let s = scope_seen c.args.scope.now in
    let made = map catch_view c.loop-one.made.items in
    let none : length (into_iter_items c.loop-one.one-iterator) ≡ 0 = sym c.loop-one.invariant.1 ∙ c.in-None.ensures.steps.0 in
    let start : c.args.written.items ≡ into_iter_items c.into_iter-one-iterator.result = search rules in
    ap (λ (cs : List Clause). words.clauses heads s (map clause_seen cs)) start
    ∙ sym c.loop-one.invariant.0
    ∙ ap (λ (cs : List Clause). left_behind heads s made (map clause_seen cs)) (nil_from_length (into_iter_items c.loop-one.one-iterator) none)
    ∙ clauses_end heads s made
