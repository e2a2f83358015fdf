use Rattle.std.proofs.Common.{◌≡◌, map, drop}
use Rattle.std.specs.List.{find}
use Rattle.je_typing.specs.Castable.{is_of_class}
use Rattle.name_types.specs.View.{shown}
use Rattle.body_places.proofs.seen.first_of_class.Given as goal

abbrev pub invariant-loop-ty : goal.invariant-loop-ty
invariant-loop-ty l = find (is_of_class l.class.0) (map shown (drop l.ty-index l.types)) ≡ find (is_of_class l.class.0) (map shown l.types)
