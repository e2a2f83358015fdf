use Rattle.std.proofs.Common.{arith, sym, subst, rules}
use Rattle.name_walk.specs.View.{sites_of}
use Rattle.name_walk.specs.declared.site.ClassSite.{ClassSite}
use Rattle.name_walk.proofs.Behind.{count_of_sites}
use Rattle.name_sites.specs.Shown.{Shows}
use Rattle.name_sites.specs.View.{source_of}
use Rattle.name_sites.proofs.Shown.{shows_at, shows_past}
use Rattle.name_sites.proofs.sites.Sites.class.Goals as goal

pub returns-then-at-len : goal.returns-then-at-len
unfolding source_of
returns-then-at-len c = shows_at c.args.self.now.classes.items c.args.class.0 c.index.result.now c.args.self.now.earlier (omega arith) (search rules)

pub returns-else-at-len : goal.returns-else-at-len
unfolding source_of
returns-else-at-len c =
    subst (λ (x : ClassSite). Shows (sites_of c.args.self.now.classes.items) c.args.class.0 x) (sym c.nothing.ensures)
    (shows_past (sites_of c.args.self.now.classes.items) c.args.class.0 (omega (arith, count_of_sites c.args.self.now.classes.items)))
