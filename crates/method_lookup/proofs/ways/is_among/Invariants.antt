use Rattle.std.proofs.Common.{◌≡◌, drop}
use Rattle.je_classes.specs.way.Reaching.{has}
use Rattle.method_lookup.proofs.ways.is_among.Given as goal

abbrev pub invariant-loop-other : goal.invariant-loop-other
invariant-loop-other l = has (drop l.other-index l.classes) l.class ≡ has l.classes l.class
