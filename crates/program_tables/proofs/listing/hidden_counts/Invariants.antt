use Rattle.std.proofs.Common.{◌≡◌, ℕ, ◌<◌, length}
use Rattle.std.specs.Prelude.{slice_index}
use Rattle.class_typing.specs.Elaboration.{hidden_count}
use Rattle.core_making.specs.Known.{captured_seen}
use Rattle.type_faults.specs.Program.{source_in}
use Rattle.program_tables.proofs.listing.hidden_counts.Given as goal

abbrev pub invariant-loop-at : goal.invariant-loop-at
invariant-loop-at l = record {
  as_many : length l.counts.items ≡ l.at;
  each : (k : ℕ) → k < l.at → slice_index l.counts.items k
      ≡ hidden_count (source_in l.layout.source) (captured_seen l.layout.captured.now) k;
}
