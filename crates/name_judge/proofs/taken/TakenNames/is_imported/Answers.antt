use Rattle.std.proofs.Common.{Option, ◌∙◌, ap, sym}
use Rattle.je_base.specs.declared.span.NameId.{NameId}
use Rattle.je_scopes.specs.Faults.{is_imported}
use Rattle.name_sites.specs.View.{source_of}
use Rattle.name_judge.proofs.Imports.{nameless}
use Rattle.name_judge.proofs.taken.TakenNames.is_imported.Goals as goal

pub returns-in-None : goal.returns-in-None
returns-in-None c = nameless (source_of c.args.self.now.sites.now) ∙ ap (λ (o : Option NameId). is_imported (source_of c.args.self.now.sites.now) o) (sym c.in-None.is)
