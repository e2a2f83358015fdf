use Rattle.std.proofs.Common.{◌≡◌, ◌<◌, ◌≤◌, true, false}
use Rattle.name_sites.specs.View.{source_of}
use Rattle.name_lookup.specs.View.{known_of, unknown_count}
use Rattle.name_lookup.specs.Table.{AreSettling, AllWait}
use Rattle.name_lookup.proofs.headers.Headers.read_once.Given as goal

abbrev pub invariant-loop-at : goal.invariant-loop-at
invariant-loop-at l = record {
  settling : AreSettling (source_of l.sites) l.self;
  no_more : unknown_count l.self ≤ unknown_count l.initial.self;
  fewer : l.changed ≡ true → unknown_count l.self < unknown_count l.initial.self;
  rest : l.changed ≡ false → AllWait (source_of l.sites) (known_of l.self) l.at;
}
