use Rattle.std.proofs.Common.{◌≡◌, drop, filter}
use Rattle.je_classes.specs.way.Reaching.{with_all}
use Rattle.number_maps.specs.Maps.{family}
use Rattle.class_tables.specs.way.Above.{is_beyond}
use Rattle.class_tables.proofs.subclasses.reach_interfaces.Given as goal

abbrev pub invariant-loop-interface : goal.invariant-loop-interface
invariant-loop-interface l = with_all l.count l.reached.items (filter (is_beyond (family l.maps) l.base) (drop l.interface-index l.interfaces)) ≡ with_all l.count l.fn.reached.items (filter (is_beyond (family l.maps) l.base) l.interfaces)
