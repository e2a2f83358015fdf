use Rattle.std.proofs.Common.{◌≡◌, ◌++◌, map, drop}
use Rattle.je_table.specs.Rows.{class_said}
use Rattle.library_classes.specs.Library.{erased}
use Rattle.library_classes.proofs.methods.all_erased.Given as goal

abbrev pub invariant-loop-ty : goal.invariant-loop-ty
invariant-loop-ty l = l.all.items ++ map (erased (class_said l.row)) (drop l.ty-index l.types) ≡ map (erased (class_said l.row)) l.types
