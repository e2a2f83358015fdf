use Rattle.std.proofs.Common.{◌≡◌, ◌++◌, map, take}
use Rattle.name_types.specs.View.{shown}
use Rattle.class_heads.proofs.headers.supers_of.Given as goal

abbrev pub invariant-loop-head : goal.invariant-loop-head
invariant-loop-head l = map shown l.supers.items ≡ map shown l.initial.supers.items ++ map shown (take l.head-index l.head-items)
