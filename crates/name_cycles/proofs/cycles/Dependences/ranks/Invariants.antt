use Rattle.std.proofs.Common.{◌≡◌, ℕ, ◌≤◌, length}
use Rattle.std.specs.Prelude.{slice_index}
use Rattle.name_cycles.specs.Graph.{depends_on}
use Rattle.scope_laws.specs.Ways.{IsGrounding}
use Rattle.name_cycles.proofs.cycles.Dependences.ranks.Given as goal

abbrev pub invariant-loop-at : goal.invariant-loop-at
invariant-loop-at l = record {
  whole : length l.ranks.items ≡ l.at;
  none : (c : ℕ) → slice_index l.ranks.items c ≡ 0;
}

abbrev pub invariant-loop-before : goal.invariant-loop-before
invariant-loop-before l = record {
  whole : length l.ranks.items ≡ length l.self.lists.items;
  grounding : IsGrounding (depends_on l.self) l.ranks.items;
  least : (c : ℕ) → slice_index l.ranks.items c ≤ l.before;
}
