use Rattle.std.proofs.Common.{rules, ◌≡◌, ◌∷◌, [], List, length, map, sym, ap, ◌∙◌}
use Rattle.std.proofs.lemmas.List.{nil_from_length}
use Rattle.std.specs.declared.rc.Rc.{Rc}
use Rattle.std.specs.declared.alloc.Global.{Global}
use Rattle.std.specs.Vec.Iter.{into_iter_items, into_iter_len}
use Rattle.je_core.specs.declared.expr.Expr.{Expr}
use Rattle.je_core.specs.View.{view, views}
use Rattle.je_typing.specs.Arrays.{lengths_from}
use Rattle.je_typing.specs.Judged.{gives}
use Rattle.operator_steps.specs.declared.part.Part.{Part as PartExpr}
use Rattle.operator_steps.specs.Parts.{part_seen}
use Rattle.operator_steps.proofs.Listing.{length_pushed, lengths_done}
use Rattle.operator_steps.proofs.making.lengths.Goals as goal

pub loop-part-preserved : goal.loop-part-preserved
loop-part-preserved c =
    let items : into_iter_items c.loop-part.part-iterator ≡ c.in-Some.part ∷ into_iter_items c.next.new.self = search rules in
    let kept : c.in_ok-new.field-0.value ≡ c.in_ok-length.length = search rules in
    let count : into_iter_len c.next.new.self ≡ length (into_iter_items c.next.new.self) = search (rules, ap length items) in (
      ap (λ (es : List (Rc Expr Global)). lengths_from (views es) (map part_seen (into_iter_items c.next.new.self))) c.in_ok-push.ensures.items
          ∙ length_pushed c.loop-part.lengths.items c.in_ok-new.field-0 (part_seen c.in-Some.part) (map part_seen (into_iter_items c.next.new.self))
          (c.in_ok-length.ensures.ok ∙ ap (λ (e : Expr). gives (view e)) (sym kept))
          ∙ ap (λ (ps : List PartExpr). lengths_from (views c.loop-part.lengths.items) (map part_seen ps)) (sym items)
          ∙ c.loop-part.invariant.0,
      count,
    )

pub returns-clause-ok : goal.returns-clause-ok
returns-clause-ok c =
    let none : length (into_iter_items c.loop-part.part-iterator) ≡ 0 = sym c.loop-part.invariant.1 ∙ c.in-None.ensures.steps.0 in
    let start : c.args.parts.items ≡ into_iter_items c.into_iter-part-iterator.result = search rules in
    ap (λ (ps : List PartExpr). lengths_from [] (map part_seen ps)) start
    ∙ sym c.loop-part.invariant.0
    ∙ ap (λ (ps : List PartExpr). lengths_from (views c.loop-part.lengths.items) (map part_seen ps)) (nil_from_length (into_iter_items c.loop-part.part-iterator) none)
    ∙ lengths_done (views c.loop-part.lengths.items)
