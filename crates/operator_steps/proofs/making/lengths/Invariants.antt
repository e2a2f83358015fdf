use Rattle.std.proofs.Common.{◌≡◌, [], length, map}
use Rattle.std.specs.Vec.Iter.{into_iter_items, into_iter_len}
use Rattle.je_core.specs.View.{views}
use Rattle.je_typing.specs.Arrays.{lengths_from}
use Rattle.operator_steps.specs.Parts.{part_seen}
use Rattle.operator_steps.proofs.making.lengths.Given as goal

abbrev pub invariant-loop-part : goal.invariant-loop-part
invariant-loop-part l =
    (lengths_from (views l.lengths.items) (map part_seen (into_iter_items l.part-iterator)) ≡ lengths_from [] (map part_seen (into_iter_items l.initial.part-iterator)))
    × (into_iter_len l.part-iterator ≡ length (into_iter_items l.part-iterator))
