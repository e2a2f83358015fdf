use Rattle.type_laws.proofs.Public.{results_sound_law, results_complete_law, method_heads_sound_law, method_heads_complete_law, constructor_heads_sound_law, constructor_heads_complete_law}
use Rattle.type_laws.proofs.parts_of_heads.method_heads_are_read.Goals as goal

pub returns : goal.returns
returns c = record {
  result_sound = results_sound_law;
  result_complete = results_complete_law;
  sound = method_heads_sound_law;
  complete = method_heads_complete_law;
  constructor_sound = constructor_heads_sound_law;
  constructor_complete = constructor_heads_complete_law;
}
