use Rattle.type_laws.proofs.Public.{parameters_sound_law, parameters_complete_law}
use Rattle.type_laws.proofs.parts_of_heads.type_parameters_are_read.Goals as goal

pub returns : goal.returns
returns c = record {
  sound = parameters_sound_law;
  complete = parameters_complete_law;
}
