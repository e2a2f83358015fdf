use Rattle.std.proofs.Common.{◌≡◌, ◌++◌, map, drop}
use Rattle.name_types.specs.View.{shown}
use Rattle.library_declarations.specs.Library.{super_type}
use Rattle.library_declarations.proofs.classes.heads.Given as goal

abbrev pub invariant-loop-above : goal.invariant-loop-above
invariant-loop-above l = map shown l.heads.items ++ map super_type (drop l.above-index l.supers) ≡ map super_type l.supers
