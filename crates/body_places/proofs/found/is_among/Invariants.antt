use Rattle.std.proofs.Common.{◌≡◌, map, drop}
use Rattle.name_types.specs.View.{shown}
use Rattle.source_types.specs.Supertypes.{has_type}
use Rattle.body_places.proofs.found.is_among.Given as goal

abbrev pub invariant-loop-other : goal.invariant-loop-other
invariant-loop-other l = has_type (map shown (drop l.other-index l.types)) (shown l.ty) ≡ has_type (map shown l.types) (shown l.ty)
