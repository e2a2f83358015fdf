use Rattle.std.proofs.Common.{◌≡◌, drop, map}
use Rattle.name_typing.specs.Variables.{local_named}
use Rattle.body_places.specs.Places.{local_seen}
use Rattle.name_steps.proofs.finding.local_named.Given as goal

abbrev pub invariant-loop-local : goal.invariant-loop-local
invariant-loop-local l = local_named (map local_seen (drop l.local-index l.locals)) l.name ≡ local_named (map local_seen l.locals) l.name
