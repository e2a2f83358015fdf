use Rattle.std.proofs.Common.{◌≡◌, ◌-◌, length, Some, refl, ◌∙◌, arith}
use Rattle.std.specs.Prelude.{slice_get}
use Rattle.std.proofs.lemmas.Option.{slice_get_past, slice_get_read}
use Rattle.je_core.specs.Core.{Field, node}
use Rattle.je_core.specs.View.{view}
use Rattle.body_places.specs.View.{program_seen}
use Rattle.body_places.proofs.Outwards.{one_outwards, outermost}
use Rattle.body_places.proofs.instances.instance_node.Goals as goal

pub returns-in_default : goal.returns-in_default
returns-in_default c =
    outermost (program_seen c.args.program.now) c.args.at (view c.loop-step.object) c.loop-step.class.0 (c.args.steps - c.loop-step.step) c.args.place.round.now
    c.loop-step.step _ (slice_get_past c.args.place.round.now c.loop-step.step c.in_default.ensures.lookup.3) c.loop-step.invariant

pub loop-step-preserved : goal.loop-step-preserved
loop-step-preserved c =
    let here : slice_get c.args.place.round.now c.loop-step.step ≡ Some c.in-Some.frame.now =
    slice_get_read c.args.place.round.now (length c.args.place.round.now) c.loop-step.step c.in-Some.frame.now refl c.in-Some.ensures.lookup.3.0 c.in-Some.ensures.lookup.1 in
    one_outwards (program_seen c.args.program.now) c.args.at (view c.loop-step.object) (view c.in_ok-object.object) c.loop-step.class.0
    (c.args.steps - c.loop-step.step) _ c.in-Some.frame.now c.args.place.round.now c.loop-step.step _ here (omega arith) (omega arith)
    (c.in_ok-object.ensures ∙ (λ i. node (Field (view c.loop-step.object) c.loop-step.class (c.outer_of-field.ensures i))
    (c.mark_of_class-mark.ensures i).ty (c.mark_of_class-mark.ensures i).span (c.mark_of_class-mark.ensures i).at))
    c.loop-step.invariant
