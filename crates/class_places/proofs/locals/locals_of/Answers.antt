use Rattle.std.proofs.Common.{◌≡◌, ◌∷◌, ◌++◌, ◌-◌, List, drop, filter, map, ap, sym, ◌∙◌, arith}
use Rattle.class_typing.specs.Captures.{reversed}
use Rattle.body_places.specs.declared.place.Frame.{Frame}
use Rattle.body_places.specs.declared.place.LocalVariable.{LocalVariable}
use Rattle.body_places.specs.Places.{frame_seen, local_seen}
use Rattle.body_walks.specs.Known.{captured_local_seen}
use Rattle.class_places.specs.way.Locals.{is_kept, locals_from, own}
use Rattle.class_places.proofs.Ordered.{drop_before, frame_more}
use Rattle.class_places.proofs.locals.locals_of.Goals as goal

pub loop-left-preserved : goal.loop-left-preserved
loop-left-preserved c =
    let split : drop (c.loop-left.left - 1) c.args.round.now ≡ c.index-round-left.result ∷ drop c.loop-left.left c.args.round.now =
    drop_before c.args.round.now c.loop-left.left c.index-round-left.result (omega arith) c.loop-left.invariant.few c.index-round-left.is in
    record {
      few = omega arith;
      so_far = frame_more (is_kept c.args.all.now.keys c.args.class.0) (map frame_seen (drop c.loop-left.left c.args.round.now)) (frame_seen c.index-round-left.result)
          (map captured_local_seen c.loop-left.locals.items) (map captured_local_seen c.add_locals.new.locals.items) c.loop-left.invariant.so_far
          (c.in_ok-add_locals.ensures ∙ ap (λ (vs : List LocalVariable). map captured_local_seen c.loop-left.locals.items
          ++ filter (is_kept c.args.all.now.keys c.args.class.0) (map (own c.index-round-left.result.class.0) (reversed (map local_seen vs)))) c.deref.ensures.value)
          ∙ ap (λ (fs : List Frame). filter (is_kept c.args.all.now.keys c.args.class.0) (locals_from (map frame_seen fs))) (sym split);
    }
