use Rattle.std.proofs.Common.{◌≡◌, [], length, map}
use Rattle.std.specs.Vec.Iter.{into_iter_items, into_iter_len}
use Rattle.je_core.specs.View.{views}
use Rattle.name_types.specs.View.{shown}
use Rattle.je_typing.specs.Arrays.{elements_from}
use Rattle.source_subtypes.specs.View.{heads_of}
use Rattle.operator_steps.specs.Parts.{part_seen}
use Rattle.operator_steps.proofs.making.elements.Given as goal

abbrev pub invariant-loop-part : goal.invariant-loop-part
invariant-loop-part l =
    (elements_from (heads_of l.heads) (shown l.ty) (views l.elements.items) (map part_seen (into_iter_items l.part-iterator)) ≡
    elements_from (heads_of l.heads) (shown l.ty) [] (map part_seen (into_iter_items l.initial.part-iterator)))
    × (into_iter_len l.part-iterator ≡ length (into_iter_items l.part-iterator))
