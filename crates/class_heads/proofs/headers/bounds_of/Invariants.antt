use Rattle.std.proofs.Common.{◌≡◌, map, take}
use Rattle.name_types.specs.View.{shown}
use Rattle.declarations.specs.View.{parameter_shown}
use Rattle.class_heads.specs.Headers.{bound_of}
use Rattle.class_heads.proofs.headers.bounds_of.Given as goal

abbrev pub invariant-loop-parameter : goal.invariant-loop-parameter
invariant-loop-parameter l = map shown l.bounds.items ≡ map bound_of (map parameter_shown (take l.parameter-index l.parameters))
