use Rattle.std.proofs.Common.{◌≡◌, ℕ, ◌<◌, ◌++◌, length, replicate}
use Rattle.std.specs.Prelude.{slice_get}
use Rattle.je_scopes.specs.Headers.{site_at}
use Rattle.name_sites.specs.View.{source_of}
use Rattle.class_typing.specs.ConstantFields.{unwritten, written_values}
use Rattle.field_values.specs.Values.{count_at, values_in}
use Rattle.field_values.proofs.values.all_field_values.Given as goal

abbrev pub invariant-loop-at : goal.invariant-loop-at
invariant-loop-at l = record {
  whole : length l.all.items ≡ l.at;
  each : (c : ℕ) → c < l.at → values_in (slice_get l.all.items c) ≡ replicate (count_at l.hidden c) unwritten ++ written_values (site_at (source_of l.sites).sites c).written;
}
