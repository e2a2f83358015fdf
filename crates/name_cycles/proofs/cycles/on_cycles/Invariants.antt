use Rattle.std.proofs.Common.{◌≡◌, ℕ, ◌<◌, length, Some}
use Rattle.std.specs.Prelude.{slice_get}
use Rattle.je_scopes.specs.Settled as specs
use Rattle.name_sites.specs.View.{source_of}
use Rattle.name_cycles.proofs.cycles.on_cycles.Given as goal

abbrev pub invariant-loop-at : goal.invariant-loop-at
invariant-loop-at l = record {
  whole : length l.list.items ≡ l.at;
  each : (c : ℕ) → c < l.at → slice_get l.list.items c ≡ Some (specs.depends (source_of l.sites) c c);
}
