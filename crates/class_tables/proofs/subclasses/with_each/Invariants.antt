use Rattle.std.proofs.Common.{take}
use Rattle.number_maps.specs.Maps.{family, Keeps}
use Rattle.class_tables.specs.way.Above.{HasEach}
use Rattle.class_tables.proofs.subclasses.with_each.Given as goal

abbrev pub invariant-loop-class : goal.invariant-loop-class
invariant-loop-class l = Keeps (family l.fn.maps) (family l.maps) × HasEach (family l.fn.maps) (family l.maps) l.base (take l.class-index l.classes) l.map
