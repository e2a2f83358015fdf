use Rattle.type_laws.proofs.Types.{element_sound, element_exact}
use Rattle.type_laws.proofs.written_types.elements_are_read.Goals as goal

pub returns : goal.returns
returns c = record {
  sound = element_sound;
  exact = element_exact;
}
