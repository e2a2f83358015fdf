use Rattle.std.proofs.Common.{◌≡◌, map}
use Rattle.class_methods.specs.View.{method_seen}
use Rattle.class_methods.proofs.Lists.{kept_of}
use Rattle.source_subtypes.specs.View.{heads_of}
use Rattle.class_methods.proofs.inheriting.kept.Given as goal

abbrev pub invariant-loop-method : goal.invariant-loop-method
invariant-loop-method l = map method_seen l.kept.items ≡ kept_of (heads_of l.heads) (map method_seen l.own) l.is_interface (map method_seen l.yielded)
