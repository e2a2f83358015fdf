use Rattle.std.proofs.Common.{◌≡◌, length, map}
use Rattle.std.specs.Vec.Iter.{into_iter_items, into_iter_len}
use Rattle.je_core.specs.View.{catch_view}
use Rattle.source_subtypes.specs.View.{heads_of}
use Rattle.body_typing.specs.Catches.{clauses}
use Rattle.body_walks.specs.Scopes.{scope_seen}
use Rattle.statement_forms.specs.View.{clause_seen}
use Rattle.statement_forms.proofs.Caught.{left_behind}
use Rattle.statement_forms.proofs.catches.clauses.Given as goal

abbrev pub invariant-loop-one : goal.invariant-loop-one
invariant-loop-one l =
    (left_behind (heads_of l.heads) (scope_seen l.scope) (map catch_view l.made.items) (map clause_seen (into_iter_items l.one-iterator)) ≡
    clauses (heads_of l.heads) (scope_seen l.scope) (map clause_seen (into_iter_items l.initial.one-iterator)))
    × (into_iter_len l.one-iterator ≡ length (into_iter_items l.one-iterator))
