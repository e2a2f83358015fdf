use Rattle.std.proofs.Common.{◌≡◌, length, map}
use Rattle.std.specs.Vec.Iter.{into_iter_items, into_iter_len}
use Rattle.je_core.specs.View.{group_view}
use Rattle.name_types.specs.View.{shown}
use Rattle.source_subtypes.specs.View.{heads_of}
use Rattle.statement_forms.specs.View.{group_seen}
use Rattle.statement_forms.proofs.WalkedGroups.{Grouping}
use Rattle.statement_forms.proofs.switching.groups.Given as goal

abbrev pub invariant-loop-group : goal.invariant-loop-group
invariant-loop-group l =
    Grouping (heads_of l.heads) (shown l.selector) (map group_seen (into_iter_items l.initial.group-iterator))
    (map group_seen (into_iter_items l.group-iterator)) (map group_view l.made.items) l.met
    × (into_iter_len l.group-iterator ≡ length (into_iter_items l.group-iterator))
