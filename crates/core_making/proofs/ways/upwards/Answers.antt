use Rattle.std.proofs.Common.{ℕ, ◌-◌, List, ◌++◌, map, refl, ap, ◌∙◌, arith}
use Rattle.std.specs.Prelude.{option_map}
use Rattle.je_core.specs.declared.types.ClassId.{ClassId}
use Rattle.std.proofs.lemmas.List.{map-append}
use Rattle.body_places.specs.View.{program_seen}
use Rattle.core_making.specs.Known.{captured_seen, round_seen}
use Rattle.core_making.specs.way.Seen.{above_seen}
use Rattle.core_making.specs.way.Upwards.{way_above}
use Rattle.core_making.proofs.Upwards.{no_steps, none_above, stepped}
use Rattle.core_making.proofs.ways.upwards.Goals as goal

pub loop-left-preserved : goal.loop-left-preserved
loop-left-preserved c =
    stepped (program_seen c.args.program.now) (captured_seen c.args.known.captured.now) (round_seen c.args.known.round.now)
    (map above_seen c.loop-left.all.items) (map above_seen c.push.new.self.items) _ c.loop-left.left (c.loop-left.left - 1)
    c.in-Some.class.0 c.loop-left.way.items c.in_ok-further.further.items _
    (ap (map above_seen) c.in_ok-push.ensures.items ∙ map-append above_seen _ _) (omega arith) refl
    c.superclass-next.ensures
    (c.in_ok-further.ensures ∙ ap (λ (w : List (ClassId × ℕ)). w ++ way_above (program_seen c.args.program.now)
    (captured_seen c.args.known.captured.now) (round_seen c.args.known.round.now) c.in-Some.class.0
    (option_map (λ (k : ClassId). k.0) c.superclass-next.result)) c.deref.ensures.value)
    (rw c.in-Some.is at c.loop-left.invariant)

pub returns-in_default : goal.returns-in_default
returns-in_default c =
    none_above (program_seen c.args.program.now) (captured_seen c.args.known.captured.now) (round_seen c.args.known.round.now)
    (map above_seen c.loop-left.all.items) _ c.loop-left.left c.loop-left.way.items (rw c.in_default.is at c.loop-left.invariant)

pub returns : goal.returns
returns c =
    no_steps (program_seen c.args.program.now) (captured_seen c.args.known.captured.now) (round_seen c.args.known.round.now)
    (map above_seen c.loop-left.all.items) _ c.loop-left.left _ c.loop-left.way.items (omega arith) c.loop-left.invariant
