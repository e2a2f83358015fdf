use Rattle.std.proofs.Common.{◌≡◌, ◌++◌, drop}
use Rattle.je_scopes.specs.Headers.{heads_in, site_at}
use Rattle.class_typing.specs.Classes.{heads_from}
use Rattle.body_places.specs.View.{program_seen}
use Rattle.core_making.proofs.above.named.Given as goal

abbrev pub invariant-loop-at : goal.invariant-loop-at
invariant-loop-at l =
    l.heads.items
    ++ heads_from (drop l.at (heads_in (site_at (program_seen l.program).source.sites l.class.0).written)) (drop l.at l.classes)
    ≡ heads_from (heads_in (site_at (program_seen l.program).source.sites l.class.0).written) l.classes
