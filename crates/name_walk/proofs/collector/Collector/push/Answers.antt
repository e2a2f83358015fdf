use Rattle.std.proofs.Common.{List, ◌∙◌, ap}
use Rattle.name_walk.specs.declared.site.ClassSite.{ClassSite}
use Rattle.name_walk.specs.View.{sites_of, spot_from}
use Rattle.name_walk.specs.Collected.{spot_of}
use Rattle.name_walk.proofs.Standing.{spot_pushed}
use Rattle.name_walk.proofs.collector.Collector.push.Goals as goal

pub returns-clause-stays : goal.returns-clause-stays
unfolding spot_of
returns-clause-stays c = ap (λ (cs : List ClassSite). spot_from (sites_of cs) c.args.self.now.spot) c.in_ok-push.ensures.items ∙ spot_pushed _ _ _ c.args.self.now.among
