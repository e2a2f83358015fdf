use Rattle.std.proofs.Common.{◌≡◌, ◌-◌, ◌++◌, length, drop}
use Rattle.std.specs.List.{flat_map}
use Rattle.je_scopes.specs.Scope.{header, named}
use Rattle.je_scopes.specs.Settled.{heads_of, parts_of}
use Rattle.name_sites.specs.View.{source_of}
use Rattle.name_lookup.specs.View.{numbers, known_of}
use Rattle.name_cycles.proofs.cycles.dependences_of.Given as goal

abbrev pub invariant-loop-head : goal.invariant-loop-head
invariant-loop-head l = numbers l.list.items ++ flat_map (λ t. named (source_of l.sites) (known_of l.headers) l.class.0 header (parts_of t)) (drop l.at (heads_of (source_of l.sites) l.class.0))
    ≡ flat_map (λ t. named (source_of l.sites) (known_of l.headers) l.class.0 header (parts_of t)) (heads_of (source_of l.sites) l.class.0)

abbrev pub decreases-loop-head : goal.decreases-loop-head
decreases-loop-head l = length (heads_of (source_of l.sites) l.class.0) - l.at
