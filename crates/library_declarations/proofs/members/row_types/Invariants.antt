use Rattle.std.proofs.Common.{◌≡◌, ◌++◌, map, drop}
use Rattle.name_types.specs.View.{shown}
use Rattle.library_declarations.specs.Library.{type_declared}
use Rattle.library_declarations.proofs.members.row_types.Given as goal

abbrev pub invariant-loop-ty : goal.invariant-loop-ty
invariant-loop-ty l = map shown l.all.items ++ map (type_declared l.class.0) (drop l.ty-index l.types) ≡ map (type_declared l.class.0) l.types
