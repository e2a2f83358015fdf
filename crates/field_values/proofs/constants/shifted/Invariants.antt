use Rattle.std.proofs.Common.{◌≡◌, ℕ, ◌<◌, ◌≤◌, ◌++◌, None, length, replicate}
use Rattle.std.specs.Prelude.{slice_get}
use Rattle.body_places.specs.Tables.{values_in}
use Rattle.field_values.specs.Values.{count_at}
use Rattle.field_values.proofs.constants.shifted.Given as goal

abbrev pub invariant-loop-at : goal.invariant-loop-at
invariant-loop-at l = record {
  whole : length l.constants.items ≡ length l.initial.constants.items;
  each : (c : ℕ) → c < l.at → values_in (slice_get l.constants.items c) ≡ replicate (count_at l.more c) None ++ values_in (slice_get l.initial.constants.items c);
  further : (c : ℕ) → l.at ≤ c → slice_get l.constants.items c ≡ slice_get l.initial.constants.items c;
}
