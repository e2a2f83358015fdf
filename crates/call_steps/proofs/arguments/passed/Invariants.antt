use Rattle.std.proofs.Common.{◌≡◌, ◌++◌, length, map}
use Rattle.std.specs.Vec.Iter.{into_iter_items, into_iter_len}
use Rattle.call_typing.specs.Calls.{passed}
use Rattle.je_core.specs.View.{views}
use Rattle.name_types.specs.View.{shown}
use Rattle.typed_nodes.specs.Seen.{seen}
use Rattle.call_steps.proofs.arguments.passed.Given as goal

abbrev pub invariant-loop-argument : goal.invariant-loop-argument
invariant-loop-argument l =
    (views l.values.items ++ passed (map shown l.left) (map seen (into_iter_items l.argument-iterator))
    ≡ passed (map shown l.parameters) (map seen (into_iter_items l.initial.argument-iterator)))
    × (into_iter_len l.argument-iterator ≡ length (into_iter_items l.argument-iterator))
