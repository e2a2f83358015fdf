use Rattle.std.proofs.Common.{◌∙◌, sym}
use Rattle.name_sites.specs.View.{source_of}
use Rattle.name_sites.proofs.sites.Sites.full_name.Goals as goal

pub returns-in-Some : goal.returns-in-Some
unfolding source_of
returns-in-Some c = sym c.in-Some.is ∙ c.in_ok-class.ensures

pub returns-in-None : goal.returns-in-None
unfolding source_of
returns-in-None c = sym c.in-None.is ∙ c.in_ok-class.ensures
