use Rattle.std.proofs.Common.{◌≡◌, ℕ, ◌<◌, length, None}
use Rattle.name_lookup.specs.View.{table}
use Rattle.name_lookup.proofs.headers.Headers.unknown.Given as goal

abbrev pub invariant-loop : goal.invariant-loop
invariant-loop l = record { whole : length l.supers.items ≡ l.counter; none : (c : ℕ) → c < l.counter → table l.supers.items c ≡ None }
