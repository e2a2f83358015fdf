use Rattle.std.proofs.Common.{◌≡◌, drop, map}
use Rattle.je_core.specs.View.{method_view}
use Rattle.je_classes.specs.Dispatch.{own_from}
use Rattle.class_members.proofs.dispatch.own_method.Given as goal

abbrev pub invariant-loop-at : goal.invariant-loop-at
invariant-loop-at l = own_from (method_view l.method) l.at (map method_view (drop l.at l.methods)) ≡ own_from (method_view l.method) 0 (map method_view l.methods)
