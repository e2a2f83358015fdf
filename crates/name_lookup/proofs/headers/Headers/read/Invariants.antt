use Rattle.std.proofs.Common.{◌≡◌, ◌-◌, length, drop}
use Rattle.je_scopes.specs.Settled.{heads_of, supers_in}
use Rattle.name_sites.specs.View.{source_of}
use Rattle.name_lookup.specs.View.{numbers, known_of, after}
use Rattle.name_lookup.proofs.headers.Headers.read.Given as goal

abbrev pub invariant-loop-head : goal.invariant-loop-head
invariant-loop-head l = after (numbers l.supers.items) (supers_in (source_of l.sites) (known_of l.self) l.class.0 (drop l.at (heads_of (source_of l.sites) l.class.0)))
    ≡ supers_in (source_of l.sites) (known_of l.self) l.class.0 (heads_of (source_of l.sites) l.class.0)

abbrev pub decreases-loop-head : goal.decreases-loop-head
decreases-loop-head l = length (heads_of (source_of l.sites) l.class.0) - l.at
