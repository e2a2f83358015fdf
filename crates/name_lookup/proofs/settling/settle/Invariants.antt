use Rattle.name_sites.specs.View.{source_of}
use Rattle.name_lookup.specs.View.{unknown_count}
use Rattle.name_lookup.specs.Table.{AreSettling}
use Rattle.name_lookup.proofs.settling.settle.Given as goal

abbrev pub invariant-loop-headers : goal.invariant-loop-headers
invariant-loop-headers l = AreSettling (source_of l.sites) l.headers

abbrev pub decreases-loop-headers : goal.decreases-loop-headers
decreases-loop-headers l = unknown_count l.headers
