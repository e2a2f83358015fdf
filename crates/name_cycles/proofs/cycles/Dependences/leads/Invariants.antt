use Rattle.std.proofs.Common.{◌-◌, length}
use Rattle.name_lookup.specs.View.{numbers}
use Rattle.name_cycles.specs.Graph.{depends_on}
use Rattle.scope_laws.proofs.Cycles.{IsClosing}
use Rattle.name_cycles.proofs.cycles.Dependences.leads.Given as goal

abbrev pub invariant-loop-next : goal.invariant-loop-next
invariant-loop-next l = IsClosing (depends_on l.self) (length l.self.lists.items) l.fn.from.0 (numbers l.met.keys) l.at

abbrev pub decreases-loop-next : goal.decreases-loop-next
decreases-loop-next l = length l.self.lists.items - l.at
