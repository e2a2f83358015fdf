use Rattle.std.proofs.Common.{◌≡◌, ℕ, length, []}
use Rattle.std.specs.Prelude.{slice_get}
use Rattle.class_places.specs.way.Users.{list_in}
use Rattle.class_places.proofs.users.Users.none.Given as goal

abbrev pub invariant-loop : goal.invariant-loop
invariant-loop l = record {
  whole : length l.lists.items ≡ l.counter;
  empty : (c : ℕ) → list_in (slice_get l.lists.items c) ≡ [];
}
