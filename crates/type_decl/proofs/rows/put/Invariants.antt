use Rattle.std.proofs.Common.{◌≡◌, ℕ, ◌<◌, ◌≤◌, length, true, false}
use Rattle.std.specs.Prelude.{slice_get}
use Rattle.type_decl.specs.way.Asked.{is_asked}
use Rattle.type_decl.proofs.rows.put.Given as goal

abbrev pub invariant-loop-at : goal.invariant-loop-at
invariant-loop-at l = record {
  whole : length l.constants.items ≡ length l.initial.constants.items;
  whole_rows : length l.rows.items ≡ length l.initial.rows.items;
  asked : (c : ℕ) → c < l.at → is_asked l.asked c ≡ true → slice_get l.constants.items c ≡ slice_get l.initial.rows.items c;
  others : (c : ℕ) → c < l.at → is_asked l.asked c ≡ false → slice_get l.constants.items c ≡ slice_get l.initial.constants.items c;
  further : (c : ℕ) → l.at ≤ c → slice_get l.constants.items c ≡ slice_get l.initial.constants.items c;
  further_rows : (c : ℕ) → l.at ≤ c → slice_get l.rows.items c ≡ slice_get l.initial.rows.items c;
}
