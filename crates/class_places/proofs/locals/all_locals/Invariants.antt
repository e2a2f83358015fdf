use Rattle.std.proofs.Common.{◌≡◌, ℕ, ◌<◌, length, filter}
use Rattle.body_walks.specs.Known.{captured_seen, round_seen}
use Rattle.class_places.specs.way.Locals.{is_kept, locals_from}
use Rattle.class_places.proofs.locals.all_locals.Given as goal

abbrev pub invariant-loop-at : goal.invariant-loop-at
invariant-loop-at l = record {
  whole : length l.lists.items ≡ l.at;
  each : (c : ℕ) → c < l.at → captured_seen l.lists.items c ≡ filter (is_kept l.all.keys c) (locals_from (round_seen l.round c));
}
