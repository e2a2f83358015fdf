use Rattle.std.proofs.Common.{◌≡◌, ℕ, ◌<◌, length}
use Rattle.std.specs.Prelude.{slice_get}
use Rattle.body_scopes.specs.View.{is_set}
use Rattle.je_scopes.specs.Headers.{is_guest, site_at}
use Rattle.name_sites.specs.View.{source_of}
use Rattle.type_decl.proofs.told.guests.Given as goal

abbrev pub invariant-loop-at : goal.invariant-loop-at
invariant-loop-at l = record {
  whole : length l.asked.items ≡ l.at;
  each : (c : ℕ) → c < l.at → is_set (slice_get l.asked.items c) ≡ is_guest (site_at (source_of l.sites).sites c).written;
}
