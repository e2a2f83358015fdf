use Rattle.std.proofs.Common.{◌≡◌, ℕ, ◌<◌, length, map, option_map}
use Rattle.std.specs.Prelude.{slice_get}
use Rattle.je_core.specs.View.{class_view}
use Rattle.je_scopes.specs.Headers.{site_at}
use Rattle.name_sites.specs.View.{source_of}
use Rattle.body_places.specs.Tables.{constant_seen, values_in}
use Rattle.class_typing.specs.ConstantFields.{fields_in}
use Rattle.field_values.specs.way.Library.{constants_due}
use Rattle.field_values.proofs.constants.library_constants.Given as goal

abbrev pub invariant-loop-at : goal.invariant-loop-at
invariant-loop-at l = record {
  whole : length l.all.items ≡ l.at;
  each : (c : ℕ) → c < l.at → map (option_map constant_seen) (values_in (slice_get l.all.items c))
      ≡ constants_due (site_at (source_of l.sites).sites c).written (fields_in (slice_get (map class_view l.library) c));
}
