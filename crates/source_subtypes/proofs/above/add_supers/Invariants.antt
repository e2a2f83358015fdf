use Rattle.std.proofs.Common.{◌≡◌, map, drop}
use Rattle.name_types.specs.View.{all_shown, shown}
use Rattle.source_types.specs.Substitution.{substituted}
use Rattle.source_types.specs.way.Reaching.{with_types}
use Rattle.source_subtypes.proofs.above.add_supers.Given as goal

abbrev pub invariant-loop-above : goal.invariant-loop-above
invariant-loop-above l =
    with_types (map shown l.met.items) (map (substituted l.arguments.class.0 (all_shown l.arguments.types.now)) (map shown (drop l.above-index l.above-items))) ≡
    with_types (map shown l.initial.met.items) (map (substituted l.arguments.class.0 (all_shown l.arguments.types.now)) (map shown l.above-items))
