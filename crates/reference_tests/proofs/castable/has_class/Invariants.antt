use Rattle.std.proofs.Common.{◌≡◌, drop, map}
use Rattle.std.specs.List.{list_any}
use Rattle.name_types.specs.View.{shown}
use Rattle.je_typing.specs.Castable.{is_of_class}
use Rattle.reference_tests.proofs.castable.has_class.Given as goal

abbrev pub invariant-loop-ty : goal.invariant-loop-ty
invariant-loop-ty l = list_any (is_of_class l.class.0) (map shown (drop l.ty-index l.types)) ≡ list_any (is_of_class l.class.0) (map shown l.types)
