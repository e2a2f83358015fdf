use Rattle.std.proofs.Common.{◌≡◌, ◌<◌, ◌≤◌, List, Some, None, ℕ, length, subst, arith}
use Rattle.std.specs.Prelude.{slice_get}
use Rattle.body_places.specs.View.{program_seen}
use Rattle.class_places.specs.way.Kept.{Gains, IsHandedTo}
use Rattle.class_places.proofs.Gained.{step_ends, step_one, step_there}
use Rattle.class_places.proofs.kept.add_step.Goals as goal
use Rattle.class_places.proofs.kept.add_step.Goals.{in-Some+in_ok-add_users, in_default}

pub loop-at-preserved : goal.loop-at-preserved
loop-at-preserved c =
    let l : c.loop-at.at < length c.args.all.now.keys = omega (arith, c.len-at-end.ensures.len) in
    let m : c.args.start ≤ c.loop-at.at = c.loop-at.auto.at in
    elim c.match-copied.branch [
      | in-Some+in_ok-add_users w ↦
          let here : slice_get c.loop-at.all.keys c.loop-at.at ≡ Some w.in-Some.one = cc (w.in-Some.ensures, c.get_index.ensures.key) in
          rw w.all-is (step_one (program_seen c.args.program.now) c.args.users.now c.args.all.now.keys c.args.start c.loop-at.at c.loop-at.all.keys c.loop-at.invariant
          w.add_users.new.all.keys w.in-Some.one m l here
          (subst (λ (ns : List ℕ). Gains (program_seen c.args.program.now) (IsHandedTo ns w.in-Some.one) c.loop-at.all.keys w.add_users.new.all.keys) w.of.ensures w.in_ok-add_users.ensures))
      | in_default w ↦
          let none : slice_get c.loop-at.all.keys c.loop-at.at ≡ None = cc (w.in_default.ensures, c.get_index.ensures.key) in
          absurd (step_there (program_seen c.args.program.now) c.args.users.now c.args.all.now.keys c.args.start c.loop-at.at c.loop-at.all.keys c.loop-at.invariant l none)
    ]

pub returns : goal.returns
returns c =
    let l : length c.args.all.now.keys ≤ c.loop-at.at = omega (arith, c.len-at-end.ensures.len) in
    step_ends (program_seen c.args.program.now) c.args.users.now c.args.all.now.keys c.args.start c.loop-at.at c.loop-at.all.keys c.loop-at.invariant l
