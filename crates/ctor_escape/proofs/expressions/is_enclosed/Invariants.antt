use Rattle.std.proofs.Common.{◌≡◌, drop, map}
use Rattle.std.specs.List.{list_any}
use Rattle.je_core.specs.View.{capture_view}
use Rattle.ctor_escape.specs.Expressions.{is_handed_this}
use Rattle.ctor_escape.proofs.expressions.is_enclosed.Given as goal

abbrev pub invariant-loop-capture : goal.invariant-loop-capture
invariant-loop-capture l = list_any is_handed_this (map capture_view (drop l.capture-index l.captures)) ≡ list_any is_handed_this (map capture_view l.captures)
