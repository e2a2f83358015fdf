use Rattle.std.proofs.Common.{ap, sym, ◌∙◌}
use Rattle.body_places.specs.View.{program_seen}
use Rattle.class_places.proofs.Near.{round_none, round_one}
use Rattle.class_places.proofs.users.add_round.Goals as goal
use Rattle.class_places.proofs.users.add_round.Goals.{in-Some+in_ok-add, in_default}
use Rattle.name_sites.specs.Number.{number_in}

pub loop-at-preserved : goal.loop-at-preserved
loop-at-preserved c =
    elim c.match-outside.branch [
      | in-Some+in_ok-add w ↦ rw w.users-is (round_one (program_seen c.args.program.now) c.args.users.now c.loop-at.users w.add.new.self c.loop-at.at w.in-Some.round.0
          (sym c.outside.ensures.within ∙ ap number_in w.in-Some.is) c.loop-at.invariant w.in_ok-add.ensures)
      | in_default w ↦ rw w.users-is (round_none (program_seen c.args.program.now) c.args.users.now c.loop-at.users c.loop-at.users c.loop-at.at
          (sym c.outside.ensures.within ∙ ap number_in w.in_default.is) c.loop-at.invariant)
    ]
