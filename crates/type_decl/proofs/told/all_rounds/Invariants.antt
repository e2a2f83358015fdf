use Rattle.std.proofs.Common.{◌≡◌, ℕ, ◌<◌, length, map}
use Rattle.std.specs.Prelude.{slice_get}
use Rattle.name_sites.specs.View.{source_of}
use Rattle.program_tables.specs.Known.{frames_in}
use Rattle.class_typing.specs.Places.{round_met}
use Rattle.member_forms.specs.Bodies.{met_seen}
use Rattle.type_decl.proofs.told.all_rounds.Given as goal

abbrev pub invariant-loop-at : goal.invariant-loop-at
invariant-loop-at l = record {
  whole : length l.rounds.items ≡ l.at;
  each : (c : ℕ) → c < l.at → frames_in (slice_get l.rounds.items c) ≡ round_met (source_of l.sites).sites (map met_seen l.all.met.items) c;
}
