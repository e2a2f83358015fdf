use Rattle.std.proofs.Common.{◌≡◌, ◌+◌, ◌++◌, ◌∷◌, [], take, map, sym, arith}
use Rattle.name_types.specs.View.{shown}
use Rattle.class_places.proofs.Ends.{map-take-more}
use Rattle.class_places.proofs.Near.{under_none, under_one}
use Rattle.class_places.proofs.users.add_above.Goals as goal
use Rattle.class_places.proofs.users.add_above.Goals.{in-Some+in_ok-add, in_default}

pub loop-ty-preserved : goal.loop-ty-preserved
loop-ty-preserved c =
    let grown : map shown (take (c.loop-ty.ty-index + 1) c.args.types.now) ≡ map shown (take c.loop-ty.ty-index c.args.types.now) ++ shown c.ty-item.result ∷ [] =
    map-take-more shown c.args.types.now c.loop-ty.ty-index c.ty-item.result (omega arith) c.ty-item.is in
    elim c.match-class_of.branch [
      | in-Some+in_ok-add w ↦ rw w.users-is (under_one c.args.class.0 c.args.users.now c.loop-ty.users w.add.new.self _ _ (shown c.ty-item.result) grown
          w.in-Some.above.0 (sym w.in-Some.ensures) c.loop-ty.invariant w.in_ok-add.ensures)
      | in_default w ↦ rw w.users-is (under_none c.args.class.0 c.args.users.now c.loop-ty.users c.loop-ty.users _ _ (shown c.ty-item.result) grown
          (sym w.in_default.ensures) c.loop-ty.invariant)
    ]
