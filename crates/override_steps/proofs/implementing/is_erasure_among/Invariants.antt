use Rattle.std.proofs.Common.{◌≡◌, drop, map}
use Rattle.std.specs.List.{list_any}
use Rattle.je_scopes.specs.SourceTypes.{same_source_type}
use Rattle.name_types.specs.View.{shown}
use Rattle.source_subtypes.specs.View.{heads_of}
use Rattle.overriding.specs.Methods.{erasure}
use Rattle.override_steps.proofs.implementing.is_erasure_among.Given as goal

abbrev pub invariant-loop-at : goal.invariant-loop-at
invariant-loop-at l =
    list_any (λ s. same_source_type (erasure (heads_of l.heads) s) (shown l.ty)) (map shown (drop l.at l.types))
    ≡ list_any (λ s. same_source_type (erasure (heads_of l.heads) s) (shown l.ty)) (map shown l.types)
