use Rattle.std.proofs.Common.{◌≡◌, ◌+◌, ◌++◌, ◌∷◌, [], take, map, ap, arith}
use Rattle.body_walks.specs.Seen.{met_seen}
use Rattle.class_places.proofs.Ends.{map-take-more}
use Rattle.class_places.proofs.Heard.{makes_nothing}
use Rattle.class_places.proofs.Near.{maker_none, maker_one}
use Rattle.class_places.proofs.users.add_makers.Goals as goal
use Rattle.class_places.proofs.users.add_makers.Goals.{in-Makes+in_ok-add, in_default}

pub loop-one-preserved : goal.loop-one-preserved
loop-one-preserved c =
    let grown : map met_seen (take (c.loop-one.one-index + 1) c.args.met.now) ≡ map met_seen (take c.loop-one.one-index c.args.met.now) ++ met_seen c.one-item.result ∷ [] =
    map-take-more met_seen c.args.met.now c.loop-one.one-index c.one-item.result (omega arith) c.one-item.is in
    elim c.match-one.branch [
      | in-Makes+in_ok-add w ↦ rw w.users-is (maker_one c.args.users.now c.loop-one.users w.add.new.self _ _ (met_seen c.one-item.result) grown
          _ _ (ap met_seen w.in-Makes.is) c.loop-one.invariant w.in_ok-add.ensures)
      | in_default w ↦ rw w.users-is (maker_none c.args.users.now c.loop-one.users c.loop-one.users _ _ (met_seen c.one-item.result) grown
          (λ x y. makes_nothing c.one-item.result w.in_default.not-Makes y x) c.loop-one.invariant)
    ]
