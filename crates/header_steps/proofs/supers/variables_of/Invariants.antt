use Rattle.std.proofs.Common.{◌≡◌, map}
use Rattle.name_types.specs.View.{shown}
use Rattle.header_typing.specs.Supers.{variables_of}
use Rattle.header_steps.proofs.supers.variables_of.Given as goal

abbrev pub invariant-loop-at : goal.invariant-loop-at
invariant-loop-at l = map shown l.variables.items ≡ variables_of l.class.0 l.at
