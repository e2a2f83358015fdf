use Rattle.std.proofs.Common.{◌∙◌, sym}
use Rattle.name_sites.proofs.ImportSteps.{last_is}
use Rattle.name_sites.proofs.imports.last_identifier.Goals as goal

pub returns : goal.returns
returns c = c.copied.ensures ∙ c.last.ensures.value ∙ sym (last_is c.args.parts.now)
