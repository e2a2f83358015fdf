use Rattle.std.proofs.Common.{◌≡◌, length, map}
use Rattle.std.specs.Vec.Iter.{into_iter_items, into_iter_len}
use Rattle.name_types.specs.View.{shown}
use Rattle.source_types.specs.way.Reaching.{with_types}
use Rattle.body_places.proofs.found.push_all.Given as goal

abbrev pub invariant-loop-ty : goal.invariant-loop-ty
invariant-loop-ty l =
    (with_types (map shown l.types.items) (map shown (into_iter_items l.ty-iterator)) ≡
    with_types (map shown l.initial.types.items) (map shown (into_iter_items l.initial.ty-iterator)))
    × (into_iter_len l.ty-iterator ≡ length (into_iter_items l.ty-iterator))
