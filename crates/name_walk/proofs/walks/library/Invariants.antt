use Rattle.std.proofs.Common.{◌≡◌, ◌≤◌, ◌-◌, length, replicate}
use Rattle.je_core.specs.declared.program.Sort.TheVariants as sort
use Rattle.je_scopes.specs.Sites.{at_top, in_library, site}
use Rattle.name_walk.specs.Collected.{collected, spot_of}
use Rattle.name_walk.proofs.walks.library.Given as goal

abbrev pub invariant-rows : goal.invariant-rows
invariant-rows l =
    (spot_of l.collector ≡ at_top 0)
    × (length (collected l.collector) ≤ 39)
    × (collected l.collector ≡ replicate (length (collected l.collector)) (site in_library sort.Class (at_top 0)))

abbrev pub decreases-rows : goal.decreases-rows
decreases-rows l = 39 - length (collected l.collector)
