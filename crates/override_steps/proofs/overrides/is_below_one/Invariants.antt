use Rattle.std.proofs.Common.{◌≡◌, drop, map}
use Rattle.std.specs.List.{list_any}
use Rattle.name_types.specs.View.{shown}
use Rattle.source_subtypes.specs.View.{heads_of}
use Rattle.source_types.specs.Subtypes.{is_subtype}
use Rattle.override_steps.proofs.overrides.is_below_one.Given as goal

abbrev pub invariant-loop-at : goal.invariant-loop-at
invariant-loop-at l =
    list_any (is_subtype (heads_of l.heads) (shown l.ty)) (map shown (drop l.at l.types))
    ≡ list_any (is_subtype (heads_of l.heads) (shown l.ty)) (map shown l.types)
