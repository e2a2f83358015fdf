use Rattle.std.proofs.Common.{◌≡◌, ℕ, ◌<◌, length, map}
use Rattle.std.specs.Prelude.{slice_get}
use Rattle.body_scopes.specs.View.{is_set}
use Rattle.name_sites.specs.View.{source_of}
use Rattle.class_typing.specs.Places.{is_placed}
use Rattle.member_forms.specs.Bodies.{met_seen}
use Rattle.type_decl.proofs.meeting.placed.Given as goal

abbrev pub invariant-loop-at : goal.invariant-loop-at
invariant-loop-at l = record {
  whole : length l.asked.items ≡ l.at;
  each : (c : ℕ) → c < l.at → is_set (slice_get l.asked.items c) ≡ is_placed (source_of l.sites).sites (map met_seen l.met) c;
}
