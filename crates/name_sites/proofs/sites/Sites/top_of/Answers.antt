use Rattle.std.proofs.Common.{arith, sym}
use Rattle.name_walk.specs.View.{sites_of}
use Rattle.name_walk.proofs.Behind.{count_of_sites}
use Rattle.name_sites.specs.View.{source_of}
use Rattle.name_sites.proofs.Tops.{top_past}
use Rattle.name_sites.proofs.sites.Sites.top_of.Goals as goal

pub returns-else-at-len : goal.returns-else-at-len
unfolding source_of
returns-else-at-len c = sym (top_past (sites_of c.args.self.now.classes.items) c.args.class.0 (omega (arith, count_of_sites c.args.self.now.classes.items, c.args.self.now.each_top)))
