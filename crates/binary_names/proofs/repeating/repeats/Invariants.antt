use Rattle.std.proofs.Common.{◌≡◌, ℕ, ◌<◌, nat_eq, Some, length, get_or, take}
use Rattle.std.specs.Prelude.{slice_get}
use Rattle.std.specs.List.{list_any}
use Rattle.binary_names.proofs.repeating.repeats.Given as goal

abbrev pub invariant-loop-number : goal.invariant-loop-number
invariant-loop-number l = record {
  count : length l.flags.items ≡ l.number-index;
  seen : (n : ℕ) → list_any (nat_eq n) l.seen.keys ≡ list_any (nat_eq n) (take l.number-index l.numbers);
  flags : (c : ℕ) → c < l.number-index → slice_get l.flags.items c ≡ Some (list_any (nat_eq (get_or l.numbers c 0)) (take c l.numbers));
}
