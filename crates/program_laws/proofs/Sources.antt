-- What headers of a sound source name, and the variables of its classes.
use Rattle.je_core.specs.Core.{CoreProgram}
use Rattle.je_scopes.specs.Source.{Source}
use Rattle.elaborated_laws.specs.Elaborated.{IsElaborated}
use Rattle.elaborated_laws.specs.Premises.{HeadsAreClasses}
use Rattle.elaborated_laws.specs.Sound.{VariablesAreSound}
use Rattle.judged_laws.proofs.Erased.{variables_stand}
use Rattle.judged_laws.proofs.HeaderTypes.{heads_are_classes}
use Rattle.program_laws.specs.Premises.{SourceIsSound, declared}

module _ (source : Source) (program : CoreProgram) (e : IsElaborated source program) (sound : SourceIsSound source program e) where
  pub heads-named : HeadsAreClasses source
  heads-named = heads_are_classes source program e sound.sites sound.names sound.written sound.anonymous

  pub variables-sound : VariablesAreSound (declared source program e)
  variables-sound = variables_stand source program e sound.sites sound.names sound.written heads-named
