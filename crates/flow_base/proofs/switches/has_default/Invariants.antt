use Rattle.std.proofs.Common.{◌≡◌, drop, map}
use Rattle.je_core.specs.Core.{core_groups}
use Rattle.je_core.specs.View.{group_view}
use Rattle.flow_base.specs.Switches.{has_default}
use Rattle.flow_base.proofs.switches.has_default.Given as goal

abbrev pub invariant-loop-group : goal.invariant-loop-group
invariant-loop-group l = has_default (core_groups (map group_view (drop l.group-index l.groups))) ≡ has_default (core_groups (map group_view l.groups))
