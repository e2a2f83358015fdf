use Rattle.std.proofs.Common.{◌≡◌, map, take}
use Rattle.name_types.specs.View.{shown}
use Rattle.source_subtypes.proofs.copying.+copying.Given as goal

abbrev pub invariant-all_copied-loop-ty : goal.invariant-all_copied-loop-ty
invariant-all_copied-loop-ty l = map shown l.copies.items ≡ map shown (take l.ty-index l.types)
