use Rattle.std.proofs.Common.{◌≡◌, map, take}
use Rattle.call_typing.specs.Calls.{type_of}
use Rattle.name_types.specs.View.{shown}
use Rattle.typed_nodes.specs.Seen.{seen}
use Rattle.call_steps.proofs.arguments.types_of.Given as goal

abbrev pub invariant-loop-at : goal.invariant-loop-at
invariant-loop-at l = map shown l.types.items ≡ map type_of (map seen (take l.at l.arguments))
