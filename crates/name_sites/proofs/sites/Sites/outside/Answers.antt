use Rattle.std.proofs.Common.{◌∙◌, sym, arith}
use Rattle.name_walk.proofs.Behind.{count_of_sites}
use Rattle.name_sites.specs.View.{source_of}
use Rattle.name_sites.proofs.sites.Sites.outside.Goals as goal

pub numbered-requires : goal.numbered-requires
unfolding source_of
numbered-requires c = λ x q. omega (arith, c.class-site.ensures.within x q, count_of_sites c.args.self.now.classes.items, c.args.self.now.few)

pub returns-clause-earlier : goal.returns-clause-earlier
returns-clause-earlier c = λ d e. c.class-site.ensures.earlier d (sym c.numbered.ensures ∙ e)
