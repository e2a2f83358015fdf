use Rattle.std.proofs.Common.{◌≡◌, map, take}
use Rattle.name_types.specs.View.{shown}
use Rattle.source_types.specs.Erasure.{erased}
use Rattle.source_subtypes.specs.View.{heads_of}
use Rattle.member_forms.proofs.methods.all_erased.Given as goal

abbrev pub invariant-loop-ty : goal.invariant-loop-ty
invariant-loop-ty l = l.all.items ≡ map (erased (heads_of l.heads)) (map shown (take l.ty-index l.types))
