use Rattle.std.proofs.Common.{◌≡◌, ◌+◌, ◌++◌, ◌∷◌, [], take, map, ap, arith}
use Rattle.body_places.specs.View.{program_seen}
use Rattle.body_walks.specs.Seen.{met_seen}
use Rattle.class_places.proofs.Ends.{map-take-more}
use Rattle.class_places.proofs.Gained.{direct_none, direct_one}
use Rattle.class_places.proofs.Heard.{names_nothing}
use Rattle.class_places.proofs.kept.add_direct.Goals as goal
use Rattle.class_places.proofs.kept.add_direct.Goals.{in-Captures+in_ok-add, in_default}

pub loop-one-preserved : goal.loop-one-preserved
loop-one-preserved c =
    let grown : map met_seen (take (c.loop-one.one-index + 1) c.args.met.now) ≡ map met_seen (take c.loop-one.one-index c.args.met.now) ++ met_seen c.one-item.result ∷ [] =
    map-take-more met_seen c.args.met.now c.loop-one.one-index c.one-item.result (omega arith) c.one-item.is in
    elim c.match-one.branch [
      | in-Captures+in_ok-add w ↦ rw w.all-is (direct_one (program_seen c.args.program.now) c.args.all.now.keys c.loop-one.all.keys w.add.new.all.keys _ _ (met_seen c.one-item.result) grown
          _ c.loop-one.invariant w.in_ok-add.ensures (ap met_seen w.in-Captures.is))
      | in_default w ↦ rw w.all-is (direct_none (program_seen c.args.program.now) c.args.all.now.keys c.loop-one.all.keys c.loop-one.all.keys _ _ (met_seen c.one-item.result) grown
          (λ k. names_nothing c.one-item.result w.in_default.not-Captures k.class.0 k.owner.0 k.local) c.loop-one.invariant)
    ]
