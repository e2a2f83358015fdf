use Rattle.std.proofs.Common.{◌≡◌, drop, map}
use Rattle.std.specs.List.{list_all}
use Rattle.name_types.specs.View.{shown}
use Rattle.source_subtypes.specs.View.{heads_of}
use Rattle.overriding.specs.Overrides.{may_throw}
use Rattle.override_steps.proofs.overrides.may_throw_all.Given as goal

abbrev pub invariant-loop-at : goal.invariant-loop-at
invariant-loop-at l =
    list_all (may_throw (heads_of l.heads) (map shown l.allowed)) (map shown (drop l.at l.types))
    ≡ list_all (may_throw (heads_of l.heads) (map shown l.allowed)) (map shown l.types)
