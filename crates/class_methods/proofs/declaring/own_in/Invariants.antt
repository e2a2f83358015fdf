use Rattle.std.proofs.Common.{◌≡◌, ◌++◌, drop, map}
use Rattle.declarations.specs.View.{method_shown}
use Rattle.overriding.specs.Methods.{own_from}
use Rattle.class_methods.specs.View.{method_seen}
use Rattle.class_methods.proofs.declaring.own_in.Given as goal

abbrev pub invariant-loop-place : goal.invariant-loop-place
invariant-loop-place l =
    map method_seen l.own.items ++ own_from l.class.0 l.place (map method_shown (drop l.place l.methods)) ≡ own_from l.class.0 0 (map method_shown l.methods)
