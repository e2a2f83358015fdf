use Rattle.std.proofs.Common.{◌≡◌, drop, map}
use Rattle.std.specs.List.{list_all}
use Rattle.je_core.specs.View.{class_view}
use Rattle.je_types.specs.way.Small.{is_small_class}
use Rattle.je_types.proofs.limits.are_small_classes.Given as goal

abbrev pub invariant-loop-class : goal.invariant-loop-class
invariant-loop-class l = list_all is_small_class (map class_view (drop l.class-index l.classes)) ≡ list_all is_small_class (map class_view l.classes)
