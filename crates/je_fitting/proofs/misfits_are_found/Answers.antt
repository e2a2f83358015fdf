use Rattle.je_fitting.specs.way.Misfits.{first_misfit}
use Rattle.je_fitting.proofs.FirstMisfit.{first, none_misfit, some_misfit, is_misfit}
use Rattle.je_fitting.proofs.FirstMisfit as misfit
use Rattle.je_fitting.proofs.misfits_are_found.Goals as goal

pub returns : goal.returns
returns c = record {
  found = λ p class part. (some_misfit p (first_misfit p) (first p) class part, is_misfit p (first_misfit p) (first p) class part);
  none = λ p. none_misfit p (first_misfit p) (first p);
  one = misfit.misfit_unique;
}
