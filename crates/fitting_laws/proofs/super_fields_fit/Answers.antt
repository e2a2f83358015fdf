use Rattle.fitting_laws.proofs.Qualified.{super_fields_fit}
use Rattle.fitting_laws.proofs.super_fields_fit.Goals as goal

pub returns : goal.returns
returns c = super_fields_fit
