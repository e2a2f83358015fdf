use Rattle.std.proofs.Common.{◌≡◌, map}
use Rattle.std.specs.Prelude.{filter}
use Rattle.name_types.specs.View.{shown}
use Rattle.overriding.specs.Methods.{is_another_class}
use Rattle.class_methods.proofs.above.others.Given as goal

abbrev pub invariant-loop-ty : goal.invariant-loop-ty
invariant-loop-ty l = map shown l.others.items ≡ filter (is_another_class l.class.0) (map shown l.yielded)
