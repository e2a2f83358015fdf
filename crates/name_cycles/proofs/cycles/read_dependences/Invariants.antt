use Rattle.std.proofs.Common.{◌≡◌, ℕ, ◌<◌, length}
use Rattle.std.specs.Prelude.{slice_get}
use Rattle.je_scopes.specs.Settled as specs
use Rattle.name_sites.specs.View.{source_of}
use Rattle.name_cycles.specs.Graph.{list_view}
use Rattle.name_cycles.proofs.cycles.read_dependences.Given as goal

abbrev pub invariant-loop-at : goal.invariant-loop-at
invariant-loop-at l = record {
  whole : length l.lists.items ≡ l.at;
  right : (c : ℕ) → c < l.at → list_view (slice_get l.lists.items c) ≡ specs.dependences (source_of l.sites) c;
}
