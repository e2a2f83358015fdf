use Rattle.std.proofs.Common.{◌-◌, length}
use Rattle.scope_laws.proofs.Steps.{IsWalking}
use Rattle.name_sites.specs.View.{source_of}
use Rattle.name_lookup.specs.View.{look_view, numbers, known_of}
use Rattle.name_lookup.proofs.headers.Headers.among.Given as goal

abbrev pub invariant-loop-class : goal.invariant-loop-class
invariant-loop-class l = IsWalking (source_of l.sites) (known_of l.self) l.name (numbers l.supers) (numbers l.met.keys) l.at (look_view l.found)

abbrev pub decreases-loop-class : goal.decreases-loop-class
decreases-loop-class l = length (source_of l.sites).sites - l.at
