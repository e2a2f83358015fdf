use Rattle.std.proofs.Common.{◌≡◌, length}
use Rattle.body_places.specs.Tables.{constant_at}
use Rattle.type_decl.proofs.rounds.fill_up.Given as goal

abbrev pub invariant-loop : goal.invariant-loop
invariant-loop l = record {
  whole : length l.constants.items ≡ l.counter;
  same : constant_at l.constants.items ≡ constant_at l.initial.constants.items;
}
