use Rattle.std.proofs.Common.{◌≡◌, ◌∷◌, ◌++◌, ◌-◌, [], List, drop, filter, map, ap, sym, ◌∙◌, arith}
use Rattle.std.specs.Prelude.{true, false}
use Rattle.std.proofs.lemmas.List.{map-append}
use Rattle.class_typing.specs.Captures.{reversed}
use Rattle.name_typing.specs.Program.{LocalVariable}
use Rattle.body_places.specs.declared.place.LocalVariable.{LocalVariable as Kept}
use Rattle.body_places.specs.Places.{local_seen}
use Rattle.body_walks.specs.Known.{captured_local_seen}
use Rattle.class_places.specs.way.Locals.{is_kept, own}
use Rattle.class_places.proofs.Ordered.{drop_before, one_kept, one_left}
use Rattle.class_places.proofs.locals.add_locals.Goals as goal

pub loop-left-preserved-in-Continue-branch-2 : goal.loop-left-preserved-in-Continue-branch-2
loop-left-preserved-in-Continue-branch-2 c =
    let split : drop (c.loop-left.left - 1) c.args.variables.now ≡ c.index-variables-left.result ∷ drop c.loop-left.left c.args.variables.now =
    drop_before c.args.variables.now c.loop-left.left c.index-variables-left.result (omega arith) c.loop-left.invariant.few c.index-variables-left.is in
    let kept : is_kept c.args.all.now.keys c.args.class.0 (own c.args.owner.0 (local_seen c.index-variables-left.result)) ≡ true = sym c.contains.ensures ∙ c.if-contains.true in
    record {
      few = omega arith;
      so_far = ap (map captured_local_seen) c.in_ok-push.ensures.items
          ∙ map-append captured_local_seen c.loop-left.locals.items (record { owner = c.args.owner; variable = c.in_ok-variable.variable } ∷ [])
          ∙ ap (λ (v : LocalVariable). map captured_local_seen c.loop-left.locals.items ++ own c.args.owner.0 v ∷ []) c.in_ok-variable.ensures
          ∙ one_kept (is_kept c.args.all.now.keys c.args.class.0) c.args.owner.0 (map local_seen (drop c.loop-left.left c.args.variables.now)) (local_seen c.index-variables-left.result)
          (map captured_local_seen c.args.locals.now.items) (map captured_local_seen c.loop-left.locals.items) c.loop-left.invariant.so_far kept
          ∙ ap (λ (vs : List Kept). map captured_local_seen c.args.locals.now.items ++ filter (is_kept c.args.all.now.keys c.args.class.0) (map (own c.args.owner.0) (reversed (map local_seen vs)))) (sym split);
    }

pub loop-left-preserved : goal.loop-left-preserved
loop-left-preserved c =
    let split : drop (c.loop-left.left - 1) c.args.variables.now ≡ c.index-variables-left.result ∷ drop c.loop-left.left c.args.variables.now =
    drop_before c.args.variables.now c.loop-left.left c.index-variables-left.result (omega arith) c.loop-left.invariant.few c.index-variables-left.is in
    let left : is_kept c.args.all.now.keys c.args.class.0 (own c.args.owner.0 (local_seen c.index-variables-left.result)) ≡ false = sym c.contains.ensures ∙ c.if-contains.false in
    record {
      few = omega arith;
      so_far = one_left (is_kept c.args.all.now.keys c.args.class.0) c.args.owner.0 (map local_seen (drop c.loop-left.left c.args.variables.now)) (local_seen c.index-variables-left.result)
          (map captured_local_seen c.args.locals.now.items) (map captured_local_seen c.loop-left.locals.items) c.loop-left.invariant.so_far left
          ∙ ap (λ (vs : List Kept). map captured_local_seen c.args.locals.now.items ++ filter (is_kept c.args.all.now.keys c.args.class.0) (map (own c.args.owner.0) (reversed (map local_seen vs)))) (sym split);
    }
