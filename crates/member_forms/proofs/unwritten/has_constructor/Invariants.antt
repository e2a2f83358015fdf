use Rattle.std.proofs.Common.{◌≡◌, drop, map}
use Rattle.std.specs.List.{list_any}
use Rattle.declarations.specs.View.{method_shown}
use Rattle.member_forms.specs.way.Unwritten.{is_constructor}
use Rattle.member_forms.proofs.unwritten.has_constructor.Given as goal

abbrev pub invariant-loop-method : goal.invariant-loop-method
invariant-loop-method l =
    list_any is_constructor (map method_shown (drop l.method-index l.methods)) ≡ list_any is_constructor (map method_shown l.methods)
