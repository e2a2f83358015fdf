use Rattle.type_laws.proofs.Public.{formal_sound_law, formal_complete_law, formals_sound_law, formals_complete_law}
use Rattle.type_laws.proofs.parts_of_heads.formals_are_read.Goals as goal

pub returns : goal.returns
returns c = record {
  one_sound = formal_sound_law;
  one_complete = formal_complete_law;
  sound = formals_sound_law;
  complete = formals_complete_law;
}
